-- The starred sheets of 01 hold of the written definitions, by computation.
use mathlib.Core.Path.{◌≡◌, refl}
use mathlib.Core.List.{map}
use lib.Ieee.{add, sub, mul, div, neg, lt, of_int}
use Rattle.number.specs.Residues.{residue, opposite, residue_of}
use Rattle.claims.specs.WorkedSheets.{starred, found, stated}

pub worked : map found starred ≡ map stated starred
unfolding found stated add sub mul div neg lt of_int residue opposite residue_of
worked = refl
