-- All derivative rows of an assignment, as one list of rows on the adjoints: on stores that agree on the adjoint use they come to the same,
-- and what they read of the originals is the same.
use Prim.Native.Nat.{ℕ, ◌<◌}
use mathlib.Core.Path.{◌≡◌, refl, sym, ap, ◌∙◌}
use mathlib.Core.Logic.{inl, inr}
use mathlib.Core.Bool.{Bool, true, false}
use mathlib.Core.List.{List, [], ◌∷◌, ◌++◌}
use lib.ListN.{length, drop}
use lib.Seq.{drop_at}
use lib.Dec.{T}
use native.Mathlib.Omega.{arith}
use Rattle.number.specs.Arithmetic.{Arithmetic, divides}
use Rattle.sheet.specs.Tree.{done, one, RowNumber}
use Rattle.sheet.specs.Rows.{◌≔◌, Source, copy, fixed, sum, difference, product, negation, quotient}
use Rattle.sheet.specs.Names.{SourcePresent, SourceFeasible}
use Rattle.sheet.proofs.Feasibility.{source_divided}
use Rattle.sets.specs.VariableSets.{VariableSet, has, single, single_if}
use Rattle.sets.specs.Transfers.{Activity, adjoint_use}
use Rattle.sets.proofs.VariableSetLaws.{has_single_if, union_left, union_right}
use Rattle.table.specs.TableRows.{Table, TableRow, Action, assign, clear, adjoint_of, t, u, Operation, Origin, of_row, of_turning_round}
use Rattle.table.specs.Adjoint.{put, put_if, parts_of, derivative_rows}
use Rattle.machine.specs.Actions.{Attempt, through, ◌>>=◌, Memory, Setting, Stop, stopping_at, acted, with_store}
use Rattle.machine.specs.InTheLarge.{table_run, table_log}
use Rattle.machine.specs.RowReads.{Entry, is_derivative, reads_of, entry_if, noted_by, noted}
use Rattle.claims.proofs.Accounts.{Account, account, Same, derived, in_turn, noting, stopping, nothing_more, noting_more, in_turn_same}
use Rattle.claims.proofs.DerivedInTheLarge.{derived_in_the_large, derived_log_in_the_large}
use Rattle.claims.proofs.DerivativeRows.{MayRead, OnAdjoints, Agree, AdjointSize, Does, Halts, Alike, both_do, both_halt, same_reads, row_alike}

-- ---- rows in a list

puts : List TableRow → Table → Table
puts [] rest = rest
puts (r ∷ rs) rest = one r (puts rs rest)

AllOnAdjoints : (quotients : Bool) (variables : ℕ) → VariableSet → List TableRow → Type 0
AllOnAdjoints quotients v needed [] = Unit {0}
AllOnAdjoints quotients v needed (r ∷ rs) = OnAdjoints quotients v needed r.action × AllOnAdjoints quotients v needed rs

-- what a part of the writer puts before the rest, as a list of rows on the adjoints
record Listed (quotients : Bool) (v : ℕ) (needed : VariableSet) (part : Table → Table) : Type 0 where
  list : List TableRow
  is : (rest : Table) → part rest ≡ puts list rest
  all : AllOnAdjoints quotients v needed list

module _ (quotients : Bool) (v : ℕ) (needed : VariableSet) where
  listed_none : Listed quotients v needed (λ rest. rest)
  unfolding puts AllOnAdjoints
  listed_none = record { list = []; is = λ rest. refl; all = tt }

  listed_put : (row : RowNumber) (operation : Operation) (action : Action) → OnAdjoints quotients v needed action → {part : Table → Table}
      → Listed quotients v needed part → Listed quotients v needed (λ rest. put row operation action (part rest))
  unfolding puts AllOnAdjoints
  listed_put row operation action on rest =
      record {
        list = record { origin = of_row row operation; action = action } ∷ rest.list;
        is = λ after. ap (one (record { origin = of_row row operation; action = action })) (rest.is after);
        all = (on, rest.all);
      }

  listed_if : (test : Bool) (row : RowNumber) (operation : Operation) (action : Action) → (T test → OnAdjoints quotients v needed action)
      → {part : Table → Table} → Listed quotients v needed part → Listed quotients v needed (λ rest. put_if test row operation action (part rest))
  listed_if true row operation action on rest = listed_put row operation action (on tt) rest
  listed_if false row operation action on rest = rest

-- ---- an assignment's derivative rows

-- an adjoint, t and u can be read and written
module _ (quotients : Bool) (v : ℕ) (needed : VariableSet) where
  reads_adjoint : (i : ℕ) → i < v → MayRead v needed (adjoint_of v i)
  reads_adjoint i h = inr (omega arith, omega arith)

  reads_t : MayRead v needed (t v)
  reads_t = inr (omega arith, omega arith)

  reads_u : MayRead v needed (u v)
  reads_u = inr (omega arith, omega arith)

  reads_original : (i : ℕ) → i < v → T (has needed i) → MayRead v needed i
  reads_original i h m = inl (h, m)

  -- into an adjoint, from itself and t or u
  into : (i x : ℕ) → i < v → MayRead v needed x → OnAdjoints quotients v needed (assign (adjoint_of v i ≔ sum (adjoint_of v i) x))
  into i x h r = (omega arith, omega arith, (reads_adjoint i h, r))

  from_it : (i x : ℕ) → i < v → MayRead v needed x → OnAdjoints quotients v needed (assign (adjoint_of v i ≔ difference (adjoint_of v i) x))
  from_it i x h r = (omega arith, omega arith, (reads_adjoint i h, r))

  scaling : (i : ℕ) → i < v → T (has needed i) → OnAdjoints quotients v needed (assign (u v ≔ product i (t v)))
  scaling i h m = (omega arith, omega arith, (reads_original i h m, reads_t))

  -- u := a × u, and u over b, from t or u, of a quotient
  scaling_on : (i : ℕ) → i < v → T (has needed i) → OnAdjoints quotients v needed (assign (u v ≔ product i (u v)))
  scaling_on i h m = (omega arith, omega arith, (reads_original i h m, reads_u))

  divided : (x i : ℕ) → MayRead v needed x → i < v → T (has needed i) → quotients ≡ true → OnAdjoints quotients v needed (assign (u v ≔ quotient x i))
  divided x i r h m can = (omega arith, omega arith, (r, reads_original i h m, can))

-- an active product needs each operand whose fellow is varied: with `quotient_needs` the laws that look inside the adjoint use
product_needs : (a b : ℕ) (known : Activity) → known.active ≡ true
    → (T known.varied_b → T (has (adjoint_use (product a b) known) a)) × (T known.varied_a → T (has (adjoint_use (product a b) known) b))
unfolding adjoint_use
product_needs a b known e =
    let first = single_if known.varied_b a in
    let second = single_if known.varied_a b in
    rw e (λ h. union_left first second a (has_single_if known.varied_b a h), λ h. union_right first second b (has_single_if known.varied_a b h))

-- an active quotient needs its divisor, and its dividend where the divisor is varied
quotient_needs : (a b : ℕ) (known : Activity) → known.active ≡ true
    → (T known.varied_b → T (has (adjoint_use (quotient a b) known) a)) × T (has (adjoint_use (quotient a b) known) b)
unfolding adjoint_use
quotient_needs a b known e =
    let first = single_if known.varied_b a in
    rw e (λ h. union_left first (single b) a (has_single_if known.varied_b a h), union_right first (single b) b (has_single_if true b tt))

parts_listed : (quotients : Bool) (v k : ℕ) (source : Source) (row : RowNumber) (known : Activity) → SourcePresent v k source
    → SourceFeasible quotients source → known.active ≡ true
    → Listed quotients v (adjoint_use source known) (parts_of v source row known)
unfolding parts_of SourcePresent SourceFeasible
parts_listed quotients v k (copy a) row known p f e = listed_if quotients v _ known.varied_a row _ _ (λ h. into quotients v _ a (t v) p (reads_t quotients v _)) (listed_none quotients v _)
parts_listed quotients v k (fixed c) row known p f e = listed_none quotients v _
parts_listed quotients v k (sum a b) row known p f e =
    listed_if quotients v _ known.varied_a row _ _ (λ h. into quotients v _ a (t v) p.0 (reads_t quotients v _))
    (listed_if quotients v _ known.varied_b row _ _ (λ h. into quotients v _ b (t v) p.1 (reads_t quotients v _)) (listed_none quotients v _))
parts_listed quotients v k (difference a b) row known p f e =
    listed_if quotients v _ known.varied_a row _ _ (λ h. into quotients v _ a (t v) p.0 (reads_t quotients v _))
    (listed_if quotients v _ known.varied_b row _ _ (λ h. from_it quotients v _ b (t v) p.1 (reads_t quotients v _)) (listed_none quotients v _))
parts_listed quotients v k (product a b) row known p f e =
    let needs = product_needs a b known e in
    listed_if quotients v _ known.varied_a row _ _ (λ h. scaling quotients v _ b p.1 (needs.1 h))
    (listed_if quotients v _ known.varied_a row _ _ (λ h. into quotients v _ a (u v) p.0 (reads_u quotients v _))
    (listed_if quotients v _ known.varied_b row _ _ (λ h. scaling quotients v _ a p.0 (needs.0 h))
    (listed_if quotients v _ known.varied_b row _ _ (λ h. into quotients v _ b (u v) p.1 (reads_u quotients v _)) (listed_none quotients v _))))
parts_listed quotients v k (negation a) row known p f e = listed_if quotients v _ known.varied_a row _ _ (λ h. from_it quotients v _ a (t v) p (reads_t quotients v _)) (listed_none quotients v _)
parts_listed quotients v k (quotient a b) row known p f e =
    let needs = quotient_needs a b known e in
    listed_put quotients v _ row _ _ (divided quotients v _ (t v) b (reads_t quotients v _) p.1 needs.1 f)
    (listed_if quotients v _ known.varied_a row _ _ (λ h. into quotients v _ a (u v) p.0 (reads_u quotients v _))
    (listed_if quotients v _ known.varied_b row _ _ (λ h. scaling_on quotients v _ a p.0 (needs.0 h))
    (listed_if quotients v _ known.varied_b row _ _ (λ h. divided quotients v _ (u v) b (reads_u quotients v _) p.1 needs.1 f)
    (listed_if quotients v _ known.varied_b row _ _ (λ h. from_it quotients v _ b (u v) p.1 (reads_u quotients v _)) (listed_none quotients v _)))))

derivative_listed : (quotients : Bool) (v k d : ℕ) (source : Source) (row : RowNumber) (known : Activity) → d < v → SourcePresent v k source
    → SourceFeasible quotients source
    → Listed quotients v (adjoint_use source known) (derivative_rows v known.active d source row known)
unfolding derivative_rows
derivative_listed quotients v k d source row known h p f = by_activity known.active refl
  where
    by_activity : (active : Bool) → known.active ≡ active → Listed quotients v (adjoint_use source known) (derivative_rows v active d source row known)
    by_activity false e = listed_put quotients v _ row _ (clear (adjoint_of v d)) (omega arith, omega arith) (listed_none quotients v _)
    by_activity true e =
        listed_put quotients v _ row _ (assign (t v ≔ copy (adjoint_of v d))) (omega arith, omega arith, reads_adjoint quotients v _ d h)
        (listed_put quotients v _ row _ (clear (adjoint_of v d)) (omega arith, omega arith) (parts_listed quotients v k source row known p f e))

-- ---- what they come to

-- what a row notes, by what it reads
module _ (A : Arithmetic) where
  abbrev entries : Origin → List A.Carrier → List (Entry A)
  entries (of_row row operation) reads = entry_if A (is_derivative operation) (record { origin = of_row row operation; reads = reads })
  entries of_turning_round reads = []

  noted_entries : (v : ℕ) (origin : Origin) (action : Action) (memory : Memory A)
      → noted_by A v origin action memory ≡ entries origin (reads_of A v action memory.store)
  noted_entries v (of_row row operation) action memory = refl
  noted_entries v of_turning_round action memory = refl

module _ (A : Arithmetic) (setting : Setting A) where
  abbrev v : ℕ
  v = setting.variables

  abbrev Reaches : (Table → Table) → (from to : List A.Carrier) → List (Entry A) → Type 0
  Reaches part store next log =
      (memory : Memory A) (rest : Table)
      → account A setting (part rest) (with_store A memory store) ≡ noting A log (account A setting rest (with_store A memory next))

  abbrev StopsIn : (Table → Table) → List A.Carrier → List (Entry A) → Stop A → Type 0
  StopsIn part store log at = (memory : Memory A) (rest : Table) → account A setting (part rest) (with_store A memory store) ≡ stopping A log at

  pub data PartAlike (originals others : List A.Carrier) (part : Table → Table) (adjoints : List A.Carrier) : Type 0 where
    both_reach : (next : List A.Carrier) → AdjointSize A v next → (log : List (Entry A))
        → Reaches part (originals ++ adjoints) (originals ++ next) log
        → Reaches part (others ++ adjoints) (others ++ next) log → PartAlike originals others part adjoints
    both_stop : (at : Stop A) (log : List (Entry A)) → StopsIn part (originals ++ adjoints) log at → StopsIn part (others ++ adjoints) log at
        → PartAlike originals others part adjoints

  -- one row before others, on a store of which it reads this
  module _ (r : TableRow) (rs : List TableRow) (store reads : List A.Carrier) (h : reads_of A v r.action store ≡ reads) where
    row_before : (memory : Memory A) (rest : Table) (result : Attempt A.Why (Memory A))
        → acted A setting r.action (with_store A memory store) ≡ result
        → account A setting (puts (r ∷ rs) rest) (with_store A memory store)
        ≡ in_turn A (record { log = entries A r.origin reads; outcome = stopping_at A r.origin result }) (account A setting (puts rs rest))
    unfolding puts table_run table_log
    row_before memory rest result e = rw (e, noted_entries A v r.origin r.action (with_store A memory store), h) refl

    row_halts : (why : A.Why) → Halts A setting r.action store why
        → StopsIn (puts (r ∷ rs)) store (entries A r.origin reads) (record { origin = r.origin; why = why })
    row_halts why e memory rest = row_before memory rest _ (e memory) ∙ nothing_more A (entries A r.origin reads) _

    row_reaches : (next last : List A.Carrier) (log : List (Entry A)) → Does A setting r.action store next → Reaches (puts rs) next last log
        → Reaches (puts (r ∷ rs)) store last (entries A r.origin reads ++ log)
    row_reaches next last log e f memory rest =
        row_before memory rest _ (e memory) ∙ ap (noting A (entries A r.origin reads)) (f memory rest)
        ∙ noting_more A (entries A r.origin reads) log _

    row_stops : (next : List A.Carrier) (log : List (Entry A)) (at : Stop A) → Does A setting r.action store next
        → StopsIn (puts rs) next log at
        → StopsIn (puts (r ∷ rs)) store (entries A r.origin reads ++ log) at
    row_stops next log at e f memory rest = row_before memory rest _ (e memory) ∙ ap (noting A (entries A r.origin reads)) (f memory rest)

  module _ (needed : VariableSet) (originals others : List A.Carrier) (n : length originals ≡ v) (k : length others ≡ v)
      (agree : Agree A originals others needed) where
    first_alike : (r : TableRow) (rs : List TableRow) (adjoints reads : List A.Carrier) → reads_of A v r.action (originals ++ adjoints) ≡ reads
        → reads_of A v r.action (others ++ adjoints) ≡ reads → Alike A setting v originals others r.action adjoints
        → ((next : List A.Carrier) → AdjointSize A v next → PartAlike originals others (puts rs) next)
        → PartAlike originals others (puts (r ∷ rs)) adjoints
    first_alike r rs adjoints reads h l (both_halt why p q) rest_alike =
        both_stop _ _ (row_halts r rs (originals ++ adjoints) reads h why p) (row_halts r rs (others ++ adjoints) reads l why q)
    first_alike r rs adjoints reads h l (both_do next m p q) rest_alike = after (rest_alike next m)
      where
        after : PartAlike originals others (puts rs) next → PartAlike originals others (puts (r ∷ rs)) adjoints
        after (both_reach last z log f g) =
            both_reach last z (entries A r.origin reads ++ log)
            (row_reaches r rs (originals ++ adjoints) reads h (originals ++ next) (originals ++ last) log p f)
            (row_reaches r rs (others ++ adjoints) reads l (others ++ next) (others ++ last) log q g)
        after (both_stop at log f g) =
            both_stop at (entries A r.origin reads ++ log)
            (row_stops r rs (originals ++ adjoints) reads h (originals ++ next) log at p f)
            (row_stops r rs (others ++ adjoints) reads l (others ++ next) log at q g)

    puts_alike : (rs : List TableRow) → AllOnAdjoints (divides A) v needed rs → (adjoints : List A.Carrier) → AdjointSize A v adjoints
        → PartAlike originals others (puts rs) adjoints
    unfolding puts AllOnAdjoints
    puts_alike [] all adjoints m = both_reach adjoints m [] (λ memory rest. refl) (λ memory rest. refl)
    puts_alike (r ∷ rs) all adjoints m =
        first_alike r rs adjoints _ refl (sym (same_reads A v needed originals others adjoints n k agree r.action all.0))
        (row_alike A setting v needed originals others n k agree r.action adjoints m all.0)
        (λ next z. puts_alike rs all.1 next z)

    listed_alike : (part : Table → Table) → Listed (divides A) v needed part → (adjoints : List A.Carrier) → AdjointSize A v adjoints
        → PartAlike originals others part adjoints
    listed_alike part listed adjoints m = along (puts_alike listed.list listed.all adjoints m)
      where
        along : PartAlike originals others (puts listed.list) adjoints → PartAlike originals others part adjoints
        along (both_reach next z log f g) =
            both_reach next z log (λ memory rest. rw (listed.is rest) (f memory rest)) (λ memory rest. rw (listed.is rest) (g memory rest))
        along (both_stop at log f g) =
            both_stop at log (λ memory rest. rw (listed.is rest) (f memory rest)) (λ memory rest. rw (listed.is rest) (g memory rest))

  -- The derivative rows on a store that agrees with the values before the assignment on its adjoint use, against the ideal sweep.
  pub data Derives (d : ℕ) (source : Source) (row : RowNumber) (known : Activity) (originals before adjoints : List A.Carrier) : Type 0 where
    derives : (next : List A.Carrier) → AdjointSize A v next → (log : List (Entry A))
        → Reaches (derivative_rows v known.active d source row known) (originals ++ adjoints) (originals ++ next) log
        → derived A setting (d ≔ source) row known before adjoints ≡ record { log = log; outcome = through next }
        → Derives d source row known originals before adjoints
    breaks : (at : Stop A) (log : List (Entry A)) → StopsIn (derivative_rows v known.active d source row known) (originals ++ adjoints) log at
        → derived A setting (d ≔ source) row known before adjoints ≡ stopping A log at → Derives d source row known originals before adjoints

  pub derivatives_alike : (k d : ℕ) (source : Source) (row : RowNumber) (known : Activity) → d < v → SourcePresent v k source
      → SourceFeasible (divides A) source
      → (originals before adjoints : List A.Carrier) → length originals ≡ v → length before ≡ v → AdjointSize A v adjoints
      → Agree A originals before (adjoint_use source known) → Derives d source row known originals before adjoints
  unfolding table_run table_log
  derivatives_alike k d source row known h p f originals before adjoints n m z agree =
      against (listed_alike (adjoint_use source known) originals before n m agree _ (derivative_listed (divides A) v k d source row known h p f) adjoints z)
    where
      alone : Memory A
      alone = record { store = []; values = []; turns = []; copied = [] }

      adjoints_of : Account A (Memory A) → Account A (List A.Carrier)
      adjoints_of after = record { log = after.log; outcome = after.outcome >>= λ x. through (drop v x.store) }

      in_the_large : derived A setting (d ≔ source) row known before adjoints
          ≡ adjoints_of (account A setting (derivative_rows v known.active d source row known done)
          (record { store = before ++ adjoints; values = []; turns = []; copied = [] }))
      in_the_large =
          λ i. record {
            log = derived_log_in_the_large A setting (d ≔ source) row known before adjoints i;
            outcome = derived_in_the_large A setting (d ≔ source) row known before adjoints i;
          }

      against : PartAlike originals before (derivative_rows v known.active d source row known) adjoints
          → Derives d source row known originals before adjoints
      against (both_reach next size log f g) =
          derives next size log f
          (in_the_large ∙ ap adjoints_of (g alone done) ∙ nothing_more A log _ ∙ ap (λ x. record { log = log; outcome = through x }) (drop_at before next v m))
      against (both_stop at log f g) = breaks at log f (in_the_large ∙ ap adjoints_of (g alone done))

  -- what stands after derivative rows may be exchanged for what does the same
  puts_same : (rs : List TableRow) (rest other : Table) → Same A setting rest other → Same A setting (puts rs rest) (puts rs other)
  unfolding puts table_run table_log
  puts_same [] rest other h x = h x
  puts_same (r ∷ rs) rest other h x =
      in_turn_same A (record { log = noted A v r x; outcome = stopping_at A r.origin (acted A setting r.action x) }) _ _ (puts_same rs rest other h)

  pub derivative_rows_same : (k d : ℕ) (source : Source) (row : RowNumber) (known : Activity) → d < v → SourcePresent v k source
      → (rest other : Table) → Same A setting rest other
      → Same A setting (derivative_rows v known.active d source row known rest) (derivative_rows v known.active d source row known other)
  derivative_rows_same k d source row known h p rest other same x =
      let listed = derivative_listed true v k d source row known h p (source_divided source) in
      rw (listed.is rest, listed.is other) (puts_same listed.list rest other same x)
