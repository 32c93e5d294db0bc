-- `runner::straight::act` meets its contract: one law for each kind of row.
use mathlib.Core.Path.{refl}
use borrow.Author.Rules.{rules}
use Rattle.machine.specs.declared.Ahead.TheVariants as ahead
use Rattle.machine.proofs.RowLaws.{of_known}
use Rattle.machine.proofs.LineLaws.{says_copy, says_constant, says_sum, says_difference, says_product, says_negation, says_quotient, says_none}
use Rattle.machine.proofs.LineLaws.{names_copy, names_constant, names_sum, names_difference, names_product, names_negation, names_quotient, names_save, names_take_back, names_clear}
use Rattle.machine.proofs.StraightLaws.{none_acts, saved, taken_back, turn_saved, cleared, turned_round, undivided_sticks, assigned_did}
use Rattle.runner.proofs.straight.act.Goals as goal

pub copy_of-requires : goal.copy_of-requires
copy_of-requires g c =
    (names_copy _ c.requires c.in-1.is).1

pub assign-requires : goal.assign-requires
assign-requires g c =
    (names_copy _ c.requires c.in-1.is).0

pub fixed-requires : goal.fixed-requires
fixed-requires g c =
    (names_constant _ c.requires c.in-2.is).1

pub assign-requires-in-2 : goal.assign-requires-in-2
assign-requires-in-2 g c =
    (names_constant _ c.requires c.in-2.is).0

pub added-requires : goal.added-requires
added-requires g c = let whole = (names_sum _ c.requires c.in-3.is).1 in record { a_in = whole.0; b_in = whole.1 }

pub assign-requires-in-3 : goal.assign-requires-in-3
assign-requires-in-3 g c =
    (names_sum _ c.requires c.in-3.is).0

pub subtracted-requires : goal.subtracted-requires
subtracted-requires g c = let whole = (names_difference _ c.requires c.in-4.is).1 in record { a_in = whole.0; b_in = whole.1 }

pub assign-requires-in-4 : goal.assign-requires-in-4
assign-requires-in-4 g c =
    (names_difference _ c.requires c.in-4.is).0

pub multiplied-requires : goal.multiplied-requires
multiplied-requires g c = let whole = (names_product _ c.requires c.in-5.is).1 in record { a_in = whole.0; b_in = whole.1 }

pub assign-requires-in-5 : goal.assign-requires-in-5
assign-requires-in-5 g c =
    (names_product _ c.requires c.in-5.is).0

pub negated-requires : goal.negated-requires
negated-requires g c =
    (names_negation _ c.requires c.in-6.is).1

pub assign-requires-in-6 : goal.assign-requires-in-6
assign-requires-in-6 g c =
    (names_negation _ c.requires c.in-6.is).0

pub save-requires : goal.save-requires
save-requires g c =
    names_save _ c.requires c.in-12.is

pub take_back-requires : goal.take_back-requires
take_back-requires g c =
    names_take_back _ c.requires c.in-13.is

pub clear-requires : goal.clear-requires
clear-requires g c =
    names_clear _ c.requires c.in-16.is

pub divided-requires : goal.divided-requires
divided-requires g c = let whole = (names_quotient _ c.requires c.in-18.is).1 in record { a_in = whole.0; b_in = whole.1 }

pub assign-requires-in-Some : goal.assign-requires-in-Some
assign-requires-in-Some g c =
    (names_quotient _ c.requires c.in-18.is).0

pub returns-in-1 : goal.returns-in-1
returns-in-1 g c =
    assigned_did g.N.Number.why c.assign.result ahead.Clear (says_copy _ c.in-1.is) c.did_to.ensures
    (c.copy_of.ensures _) c.assign.ensures

pub returns-in-2 : goal.returns-in-2
returns-in-2 g c =
    assigned_did g.N.Number.why c.assign-in-2.result ahead.Any (says_constant _ c.in-2.is) c.did_to-in-2.ensures
    (c.fixed.ensures _) c.assign-in-2.ensures

pub returns-in-3 : goal.returns-in-3
returns-in-3 g c =
    assigned_did g.N.Number.why c.assign-in-3.result ahead.Any (says_sum _ c.in-3.is) c.did_to-in-3.ensures
    (c.added.ensures _) c.assign-in-3.ensures

pub returns-in-4 : goal.returns-in-4
returns-in-4 g c =
    assigned_did g.N.Number.why c.assign-in-4.result ahead.Any (says_difference _ c.in-4.is) c.did_to-in-4.ensures
    (c.subtracted.ensures _) c.assign-in-4.ensures

pub returns-in-5 : goal.returns-in-5
returns-in-5 g c =
    assigned_did g.N.Number.why c.assign-in-5.result ahead.Sum (says_product _ c.in-5.is) c.did_to-in-5.ensures
    (c.multiplied.ensures _) c.assign-in-5.ensures

pub returns-in-6 : goal.returns-in-6
returns-in-6 g c =
    assigned_did g.N.Number.why c.assign-in-6.result ahead.Any (says_negation _ c.in-6.is) c.did_to-in-6.ensures
    (c.negated.ensures _) c.assign-in-6.ensures

pub returns-in-12 : goal.returns-in-12
returns-in-12 g c =
    saved ahead.Any c.in-12.is c.values_to.ensures
    c.save.ensures

pub returns-in-13 : goal.returns-in-13
returns-in-13 g c =
    taken_back ahead.Copy c.in-13.is c.values_to-in-13.ensures
    c.take_back.ensures

pub returns-in-14 : goal.returns-in-14
returns-in-14 g c =
    turn_saved c.in-14.is c.is_first.ensures c.turns_to.ensures
    (of_known g.N.Number.known c.save_turn.ensures)

pub returns-in-16 : goal.returns-in-16
returns-in-16 g c =
    cleared c.in-16.is c.went_to.ensures
    c.clear.ensures

pub returns-in-17 : goal.returns-in-17
returns-in-17 g c =
    turned_round c.in-17.is c.went_to-in-17.ensures
    c.turn_round.ensures

pub returns-in-Some : goal.returns-in-Some
returns-in-Some g c =
    assigned_did g.N.Number.why c.assign-in-Some.result ahead.Sum (says_quotient _ c.in-18.is) c.did_to-in-Some.ensures
    ((rw c.in-Some.is at c.divided.ensures) _) c.assign-in-Some.ensures

pub returns-in-None : goal.returns-in-None
returns-in-None g c = undivided_sticks c.in-18.is refl ((rw c.in-None.is at c.divided.ensures) _)

pub returns-in_default : goal.returns-in_default
returns-in_default g c =
    none_acts (search (says_none, rules)) refl
