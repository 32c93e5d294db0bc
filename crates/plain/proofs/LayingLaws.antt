-- The cells as they are laid from what a call is lent, and as they are written out: one variable at a turn.
use Prim.Native.Nat.{ℕ, ◌+◌, ◌*◌, ◌≤◌, ◌<◌}
use mathlib.Core.Path.{◌≡◌, refl, sym, ap, ◌∙◌}
use mathlib.Core.Bool.{cond}
use mathlib.Core.List.{List, [], ◌∷◌, ◌++◌, map}
use native.Mathlib.Omega.{arith}
use native.Mathlib.Numerals.{add-one}
use lib.ListN.{length, get_or, take, drop, set, length-set, length-drop, length-map, take-append-drop, get_or-map}
use lib.Seq.{take-suc, take-suc-set, take_all, take-set-le, drop-set-add, drop-set-lt, get_or-take, length-take-le}
use lib.Ieee.{Float}
use Rattle.number.specs.Doubles.{doubles}
use Rattle.sheet.specs.Bounds.{limit}
use Rattle.sheet.specs.Rows.{is_independent, is_dependent}
use Rattle.machine.specs.Actions.{counting}
use Rattle.machine.proofs.RoleLaws.{counting_length, counting_at}
use Rattle.tangent.specs.TangentRuns.{starting_rates}
use Rattle.plain.specs.declared.Rated.{Rated}
use Rattle.plain.specs.Inner.Engine.{value_in, rate_in, carried_in, result_of}

map_append : {X Y : Type 0} (f : X → Y) (l m : List X) → map f (l ++ m) ≡ map f l ++ map f m
map_append f [] m = refl
map_append f (x ∷ l) m = ap (λ n. f x ∷ n) (map_append f l m)

-- one more of a list
more : {X : Type 0} {front : List X} (l : List X) (i : ℕ) (z : X) {x : X} → i < length l → x ≡ get_or l i z → front ≡ take i l
    → front ++ (x ∷ []) ≡ take (i + 1) l
more l i z h is e = rw (e, is, add-one i) (sym (take-suc l i z h))

-- ---- in

-- the first cells' numbers and rates
pub record Laying (roles : List ℕ) (starts rates : List Float) (i : ℕ) (cells : List Rated) : Type 0 where
  pub within : i ≤ length roles
  pub few : length roles ≤ limit.variables
  pub starts_fit : length starts ≡ length roles
  pub rates_fit : length rates ≡ length roles
  pub room : length cells ≡ limit.variables
  pub values : map value_in (take i cells) ≡ take i starts
  pub laid : map rate_in (take i cells) ≡ take i (starting_rates doubles roles rates)

pub laying_starts : (roles : List ℕ) (starts rates : List Float) (cells : List Rated) → length roles ≤ limit.variables
    → length starts ≡ length roles → length rates ≡ length roles → length cells ≡ limit.variables → Laying roles starts rates 0 cells
laying_starts roles starts rates cells few starts_fit rates_fit room =
    record { within = omega arith; few = few; starts_fit = starts_fit; rates_fit = rates_fit; room = room; values = refl; laid = refl }

-- a cell more
fields_more : (i : ℕ) (cells : List Rated) (f : Rated → Float) (x : Rated) → i < length cells
    → map f (take (i + 1) (set cells i x)) ≡ map f (take i cells) ++ (f x ∷ [])
fields_more i cells f x h = rw (add-one i, take-suc-set cells i x h) (map_append f (take i cells) (x ∷ []))

module _ {roles : List ℕ} {starts rates : List Float} {i : ℕ} {cells : List Rated} (so_far : Laying roles starts rates i cells) where
  pub laying_goes_on : {x y : Float} (z : Float) → i < length roles → x ≡ get_or starts i z
      → y ≡ cond (is_independent (get_or roles i 0)) (get_or rates i z) doubles.zero
      → Laying roles starts rates (i + 1) (set cells i (record { value = x; rate = y }))
  laying_goes_on {x} {y} z h value_is rate_is =
      let few = so_far.few in
      let starts_fit = so_far.starts_fit in
      let rates_fit = so_far.rates_fit in
      let room = so_far.room in
      let there : i < length cells = omega arith in
      let first = starting_rates doubles roles rates in
      let laid : y ≡ get_or first i z = rate_is ∙ sym (counting_at doubles is_independent roles rates i z h (omega arith)) in
      record {
        within = omega arith;
        few = few;
        starts_fit = starts_fit;
        rates_fit = rates_fit;
        room = length-set cells i _ ∙ room;
        values = fields_more i cells value_in _ there ∙ more starts i z (omega arith) value_is so_far.values;
        laid = fields_more i cells rate_in _ there ∙ more first i z (omega (arith, counting_length doubles is_independent roles rates)) laid so_far.laid;
      }

  pub laying_ends : length roles ≤ i
      → (carried_in (length roles) cells ≡ record { values = starts; rates = starting_rates doubles roles rates }) × (length cells ≡ limit.variables)
  laying_ends h =
      let within = so_far.within in
      let starts_fit = so_far.starts_fit in
      let all : i ≡ length roles = omega arith in
      let values : map value_in (take (length roles) cells) ≡ starts =
      rw all at so_far.values ∙ take_all (length roles) starts (omega arith) in
      let laid : map rate_in (take (length roles) cells) ≡ starting_rates doubles roles rates =
      rw all at so_far.laid ∙ take_all (length roles) _ (omega (arith, counting_length doubles is_independent roles rates)) in
      (rw (values, laid), so_far.room)

-- ---- out

-- the first numbers of both halves
pub record Writing (roles : List ℕ) (cells : List Rated) (i : ℕ) (result : List Float) : Type 0 where
  pub within : i ≤ length roles
  pub few : length roles ≤ length cells
  pub room : length result ≡ 2 * length roles
  pub values : take i result ≡ take i (map value_in (take (length roles) cells))
  pub rates : take i (drop (length roles) result) ≡ take i (counting doubles is_dependent roles (map rate_in (take (length roles) cells)))

pub writing_starts : (roles : List ℕ) (cells : List Rated) (result : List Float) → length roles ≤ length cells → length result ≡ 2 * length roles
    → Writing roles cells 0 result
writing_starts roles cells result few room = record { within = omega arith; few = few; room = room; values = refl; rates = refl }

module _ {roles : List ℕ} {cells : List Rated} {i : ℕ} {result : List Float} (so_far : Writing roles cells i result) where
  abbrev v : ℕ
  v = length roles

  field_at : (f : Rated → Float) (z : Rated) → i < v → get_or (map f (take v cells)) i (f z) ≡ f (get_or cells i z)
  field_at f z h = get_or-map f (take v cells) i z ∙ ap f (get_or-take v cells i z h)

  field_long : (f : Rated → Float) → length (map f (take v cells)) ≡ v
  field_long f = length-map (take v cells) f ∙ length-take-le v cells so_far.few

  pub writing_goes_on : {y : Float} (z : Rated) → i < v → y ≡ cond (is_dependent (get_or roles i 0)) (get_or cells i z).rate doubles.zero
      → Writing roles cells (i + 1) (set (set result i (get_or cells i z).value) (v + i) y)
  writing_goes_on {y} z h is =
      let room = so_far.room in
      let x = (get_or cells i z).value in
      let once = set result i x in
      let last = counting doubles is_dependent roles (map rate_in (take v cells)) in
      let rate : y ≡ get_or last i z.rate =
      is ∙ sym (counting_at doubles is_dependent roles (map rate_in (take v cells)) i z.rate h (omega (arith, field_long rate_in))
      ∙ ap (λ r. cond (is_dependent (get_or roles i 0)) r doubles.zero) (field_at rate_in z h)) in
      let front : take (i + 1) (set once (v + i) y) ≡ take i result ++ (x ∷ []) =
      take-set-le (i + 1) once (v + i) y (omega arith) ∙ rw (add-one i) (take-suc-set result i x (omega arith)) in
      let back : take (i + 1) (drop v (set once (v + i) y)) ≡ take i (drop v result) ++ (y ∷ []) =
      ap (take (i + 1)) (drop-set-add v once i y ∙ ap (λ l. set l i y) (drop-set-lt v result i x h))
      ∙ rw (add-one i) (take-suc-set (drop v result) i y (omega (arith, length-drop v result))) in
      record {
        within = omega arith;
        few = so_far.few;
        room = length-set once (v + i) y ∙ length-set result i x ∙ room;
        values = front ∙ more (map value_in (take v cells)) i z.value (omega (arith, field_long value_in)) (sym (field_at value_in z h)) so_far.values;
        rates = back ∙ more last i z.rate (omega (arith, counting_length doubles is_dependent roles (map rate_in (take v cells)))) rate so_far.rates;
      }

  pub writing_ends : v ≤ i → result ≡ result_of roles (carried_in v cells)
  unfolding result_of
  writing_ends h =
      let within = so_far.within in
      let room = so_far.room in
      let all : i ≡ v = omega arith in
      let last = counting doubles is_dependent roles (map rate_in (take v cells)) in
      let first : take v result ≡ map value_in (take v cells) =
      rw all at so_far.values ∙ take_all v (map value_in (take v cells)) (omega (arith, field_long value_in)) in
      let second : drop v result ≡ last =
      sym (take_all v (drop v result) (omega (arith, length-drop v result))) ∙ rw all at so_far.rates
      ∙ take_all v last (omega (arith, counting_length doubles is_dependent roles (map rate_in (take v cells)))) in
      sym (take-append-drop v result) ∙ rw (first, second)
