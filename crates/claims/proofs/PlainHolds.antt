-- What the plain engine's call meets: it answers as the tangent table's run does, wherever the table has room, and never 8 or 9.
use Prim.Native.Nat.{ℕ, ◌≤◌}
use mathlib.Core.Path.{◌≡◌, sym, ap, subst, ◌∙◌}
use mathlib.Core.Bool.{Bool}
use mathlib.Core.List.{List, []}
use mathlib.Core.Logic.{◌⊎◌, inl, inr, ◌≢◌}
use lib.ListN.{length, replicate, length-replicate}
use native.Mathlib.Omega.{arith}
use Rattle.number.specs.Arithmetic.{Arithmetic}
use Rattle.sheet.specs.Judging.{refused, given}
use Rattle.sheet.specs.Refusals.{Refusal, number_of}
use Rattle.sheet.specs.Sheets.{Sheet}
use Rattle.sheet.specs.Reading.{read}
use Rattle.sets.specs.Rounds.{sets_of, marked}
use Rattle.table.specs.Sizes.{table_room}
use Rattle.table.specs.declared.Reply.{Reply}
use Rattle.run.specs.Runs.{Lent, Ran}
use Rattle.tangent.specs.Tangent.{tangent_needs_by}
use Rattle.tangent.specs.TangentRuns.{without_stacks}
use Rattle.tangent.specs.Calls.{tangent_needs_of, run_tangent}
use Rattle.plain.specs.Carries.{Carry, carry_of}
use Rattle.plain.specs.Calls.{plain}
use Rattle.plain.proofs.EnginesAgreeCalled.{engines_agree}
use Rattle.claims.specs.ExactlyWhen.{ReadingRefuses, Read, WritingRefuses, while_reading, quotient_held, table_too_small, StartRefused, while_writing, value_stack_too_small, turn_stack_too_small, starts_not_v, seeds_not_v, result_not2_v, given_not_finite}
use Rattle.claims.specs.Tangents.{RoomForTangent, LikeTable, PlainMeets}
use Rattle.claims.proofs.ReadingExactlyWhen.{reading_settled, reading_numbers}
use Rattle.claims.proofs.StartExactlyWhen.{accepted_reads, own_sets, only_sets}
use Rattle.claims.proofs.ExactlyWhenHolds.{reading_exactly}
use Rattle.claims.proofs.TangentsHold.{tangent_number, tangent_run_meets}

-- ---- some buffer has room

no_sheet : (words : List ℕ) (r : Refusal) → ReadingRefuses words r → (sheet : Sheet) → Read words sheet → ⊥
no_sheet words r rule sheet is =
    let e : refused r ≡ given sheet = sym ((reading_settled words).by_rule r rule) ∙ accepted_reads words sheet is in
    let z : ◌≡◌ {A = ℕ} 0 1 = cc in
    absurd (omega arith)

one_sheet : (words : List ℕ) (sheet other : Sheet) → Read words sheet → Read words other → other ≡ sheet
one_sheet words sheet other is also =
    let e : given other ≡ given sheet = sym (accepted_reads words other also) ∙ accepted_reads words sheet is in
    cc

pub some_room : (words : List ℕ) → (table : List ℕ) × RoomForTangent words table
some_room words = by (reading_settled words).either
  where
    by : ((sheet : Sheet) × Read words sheet) ⊎ ((r : Refusal) × ReadingRefuses words r) → (table : List ℕ) × RoomForTangent words table
    by (inr (r, rule)) = ([], λ sheet sets accepted. absurd (no_sheet words r rule sheet accepted.is_read))
    by (inl (sheet, is)) =
        let needed = table_room (tangent_needs_by (sets_of sheet) sheet).rows in (
          replicate needed 0,
          λ other sets accepted.
              let same = one_sheet words sheet other is accepted.is_read in
              let own = only_sets words other sets accepted in
              let room : table_room (tangent_needs_by sets other).rows ≡ needed =
              ap (λ s. table_room (tangent_needs_by s other).rows) own ∙ ap (λ x. table_room (tangent_needs_by (sets_of x) x).rows) same in
              omega (arith, length-replicate {A = ℕ} needed 0),
        )

-- ---- with room there is no 8

without_eight_written : {divides : Bool} {words table : List ℕ} {r : Refusal} → RoomForTangent words table
    → WritingRefuses divides tangent_needs_by words table r → number_of r ≢ 8
unfolding number_of
without_eight_written room (while_reading rule) is = omega (arith, reading_numbers rule)
without_eight_written room (quotient_held sheet i read not first) is = omega arith
without_eight_written room (table_too_small sheet sets accepted free small) is = omega (arith, room sheet sets accepted)

pub without_eight : {A : Arithmetic} {words : List ℕ} {starts rates : List A.Carrier} {lent : Lent A} {r : Refusal} → RoomForTangent words lent.table
    → StartRefused A tangent_needs_by words starts rates lent r → number_of r ≢ 8
unfolding number_of
without_eight room (while_writing rule) is = without_eight_written room rule is
without_eight room (value_stack_too_small sheet sets fits few) is = omega arith
without_eight room (turn_stack_too_small sheet sets fits values few) is = omega arith
without_eight room (starts_not_v sheet sets fits wrong) is = omega arith
without_eight room (seeds_not_v sheet sets fits right wrong) is = omega arith
without_eight room (result_not2_v sheet sets fits right right' wrong) is = omega arith
without_eight room (given_not_finite sheet sets i fits first) is = omega arith

-- ---- the call

module _ (A : Arithmetic) (words : List ℕ) (starts rates result : List A.Carrier) where
  abbrev carry : Carry A
  carry = plain A words starts rates result

  abbrev ran : (table : List ℕ) → Ran A
  ran table = run_tangent A words starts rates (without_stacks A table result)

  -- room for any least sets is room for the sheet's own
  own_room : (table : List ℕ) → RoomForTangent words table → (sheet : Sheet) → read words ≡ given sheet
      → table_room (tangent_needs_of sheet).rows ≤ length table
  unfolding marked
  own_room table room sheet e = room sheet (sets_of sheet) (own_sets words sheet (((reading_exactly words).gives sheet).0 e))

  like_table_lem : (table : List ℕ) → RoomForTangent words table → LikeTable A words starts rates result table carry
  like_table_lem table room =
      record {
        ran = ran table;
        meets = tangent_run_meets A words starts rates (without_stacks A table result);
        same = engines_agree A words starts rates table result (own_room table room);
      }

  -- a buffer with room has no 8
  table_never_eight : (table : List ℕ) → RoomForTangent words table → (ran table).number ≢ 8
  table_never_eight table room = tangent_number A words starts rates (without_stacks A table result) 8 (λ e. omega arith) (λ e. omega arith) (λ r. without_eight room)

  never_eight_lem : carry.number ≢ 8
  unfolding like_table_lem
  never_eight_lem is =
      let room = some_room words in
      table_never_eight room.0 room.1 ((like_table_lem room.0 room.1).same.number ∙ is)

  never_nine_lem : carry.number ≢ 9
  never_nine_lem is =
      let room = some_room words in
      let like = like_table_lem room.0 room.1 in
      like.meets.never_nine (like.same.number ∙ is)

  pub plain_meets : PlainMeets A words starts rates result carry
  plain_meets = record { like_table = like_table_lem; never_eight = never_eight_lem; never_nine = never_nine_lem }

-- the contract of `tangent_plain`
pub plain_call : (A : Arithmetic) (words : List ℕ) (starts rates before after : List A.Carrier) (answer : Reply)
    → carry_of A answer after ≡ plain A words starts rates before → PlainMeets A words starts rates before (carry_of A answer after)
plain_call A words starts rates before after answer contract =
    subst (PlainMeets A words starts rates before) (sym contract) (plain_meets A words starts rates before)
