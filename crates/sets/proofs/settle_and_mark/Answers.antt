-- `sets::settle_and_mark` meets its contract: with the partners found the code's equations are the definitions', and so are the sets.
use native.Mathlib.Omega.{arith}
use Rattle.sets.proofs.TopsWithin.{findable}
use Rattle.sets.proofs.SheetMarked.{facts, partners_right, settles_varied, settles_useful, settles_required}
use Rattle.sets.proofs.SheetMarked.{varied_settled, useful_settled, required_settled, all_marked, ends_found}
use Rattle.sets.proofs.settle_and_mark.Goals as goal

pub find_partners-requires : goal.find_partners-requires
find_partners-requires c =
    let laid = c.requires.0 in
    let room = c.requires.1 in
    let known = facts _ _ _ _ laid in
    findable _ _ laid.sheet.body _ _ known.lines laid.rows_are room.came_room room.goes_room (omega (arith, known.few_rows))

pub settle-requires-clause-settles : goal.settle-requires-clause-settles
settle-requires-clause-settles c =
    let room = c.requires.1 in
    let right = partners_right _ _ _ _ c.requires.0 _ _ _ _ c.find_partners.ensures room.came_room room.goes_room in
    settles_varied c.requires.0 right (omega (arith, c.find_partners.auto.came)) (omega (arith, c.find_partners.auto.goes)) _ room.varied_clear

pub settle-requires-2-clause-settles : goal.settle-requires-2-clause-settles
settle-requires-2-clause-settles c =
    let room = c.requires.1 in
    let right = partners_right _ _ _ _ c.requires.0 _ _ _ _ c.find_partners.ensures room.came_room room.goes_room in
    settles_useful c.requires.0 right (omega (arith, c.find_partners.auto.came)) (omega (arith, c.find_partners.auto.goes)) _ room.useful_clear

pub settle-requires-3-clause-settles : goal.settle-requires-3-clause-settles
settle-requires-3-clause-settles c =
    let room = c.requires.1 in
    let right = partners_right _ _ _ _ c.requires.0 _ _ _ _ c.find_partners.ensures room.came_room room.goes_room in
    settles_required c.requires.0 right (omega (arith, c.find_partners.auto.came)) (omega (arith, c.find_partners.auto.goes)) c.settle.new.sets
    c.settle-2.new.sets _ room.required_clear

pub returns : goal.returns
returns c =
    let laid = c.requires.0 in
    let room = c.requires.1 in
    let right = partners_right _ _ _ _ laid _ _ _ _ c.find_partners.ensures room.came_room room.goes_room in
    let vs = varied_settled laid _ _ right.came_from c.settle.ensures.sets in
    let us = useful_settled laid _ _ right.goes_to c.settle-2.ensures.sets in
    let rs = required_settled laid _ _ _ _ right.came_from vs us c.settle-3.ensures.sets in
    (all_marked laid _ _ _ _ _ vs us rs (rw (c.settle-2.ensures.marks, c.settle.ensures.marks) at c.settle-3.ensures.marks), c.find_partners.ensures, ends_found laid _ _ _ vs us c.ends_of.ensures)
