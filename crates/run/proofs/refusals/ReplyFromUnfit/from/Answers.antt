-- A reply from what is unfit, by its case: each one's number and place.
use Rattle.sheet.specs.Refusals.{number_of, place_of}
use Rattle.run.proofs.refusals.ReplyFromUnfit.from.Goals as goal

pub returns-in-SmallTable : goal.returns-in-SmallTable
unfolding number_of place_of
returns-in-SmallTable c = rw c.in-SmallTable.is (record { number = c.refused.ensures.0; place = c.refused.ensures.1 })

pub returns-in-SmallValueStack : goal.returns-in-SmallValueStack
unfolding number_of place_of
returns-in-SmallValueStack c = rw c.in-SmallValueStack.is (record { number = c.refused-in-SmallValueStack.ensures.0; place = c.refused-in-SmallValueStack.ensures.1 })

pub returns-in-SmallTurnStack : goal.returns-in-SmallTurnStack
unfolding number_of place_of
returns-in-SmallTurnStack c = rw c.in-SmallTurnStack.is (record { number = c.refused-in-SmallTurnStack.ensures.0; place = c.refused-in-SmallTurnStack.ensures.1 })

pub returns-in-WrongStarts : goal.returns-in-WrongStarts
unfolding number_of place_of
returns-in-WrongStarts c = rw c.in-WrongStarts.is (record { number = c.refused-in-WrongStarts.ensures.0; place = c.refused-in-WrongStarts.ensures.1 })

pub returns-in-WrongSeeds : goal.returns-in-WrongSeeds
unfolding number_of place_of
returns-in-WrongSeeds c = rw c.in-WrongSeeds.is (record { number = c.refused-in-WrongSeeds.ensures.0; place = c.refused-in-WrongSeeds.ensures.1 })

pub returns-in-WrongResult : goal.returns-in-WrongResult
unfolding number_of place_of
returns-in-WrongResult c = rw c.in-WrongResult.is (record { number = c.refused-in-WrongResult.ensures.0; place = c.refused-in-WrongResult.ensures.1 })

pub returns-in-NotFinite : goal.returns-in-NotFinite
unfolding number_of place_of
returns-in-NotFinite c = rw c.in-NotFinite.is (record { number = c.refused-in-NotFinite.ensures.0; place = c.refused-in-NotFinite.ensures.1 })
