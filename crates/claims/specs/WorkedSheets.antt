-- "Sheets worked by hand": the starred ones as one table, what is stated of each, and what the definitions find. Where 01 leaves out one of
-- W, R, S and T, it is the one that its rules give. Tangents are 02's, and so are H's numbers; J is ours, and so are K to N, of §4, the sums of §5, and O to
-- R, of §6.
use Rattle.std.specs.Prelude.{ℕ, Bool, true, false, List, [], ◌∷◌, ◌++◌, map, ℤ, pos, negsuc, length, replicate}
use Rattle.std.proofs.Math.Option.{Option, none, some}
use Rattle.number.specs.Arithmetic.{Arithmetic}
use Rattle.number.specs.Doubles.{doubles}
use Rattle.number.specs.Residues.{residues}
use Rattle.sheet.specs.Judging.{Answer, refused, given}
use Rattle.sheet.specs.Refusals.{number_of}
use Rattle.sheet.specs.Tree.{Tree, done, one, fork, again}
use Rattle.sheet.specs.Sheets.{Sheet}
use Rattle.sheet.specs.Reading.{read}
use Rattle.sets.specs.Rounds.{marked}
use Rattle.sets.specs.Marks.{Marked, MarkedTest}
use Rattle.table.specs.Sizes.{Sizes, Checked, Written, table_room}
use Rattle.table.specs.Calls.{check, write}
use Rattle.run.specs.Runs.{Lent, Ran}
use Rattle.run.specs.Calls.{run}
use Rattle.tangent.specs.TangentRuns.{without_stacks}
use Rattle.tangent.specs.Calls.{write_tangent, run_tangent}
use Rattle.plain.specs.Carries.{Carry}
use Rattle.plain.specs.Calls.{plain}
use Rattle.claims.specs.Balance.{sum_over, seeds_by_rates, adjoints_by_rates}

abbrev whole : List ℕ → List ℤ
whole = map pos

-- start values, seeds and the 2V numbers that come out
pub record Trial : Type 0 where
  pub starts : List ℕ
  pub seeds : List ℕ
  pub result : List ℤ

-- the tangent table's words, start values, starting rates and the 2V numbers that come out, of the table's run and of the plain engine
pub record TangentTrial : Type 0 where
  pub table : List ℕ
  pub starts : List ℕ
  pub rates : List ℕ
  pub result : List ℤ

-- start values, seeds and starting rates, and what both directions' sums come to (02 §5)
pub record BalanceTrial : Type 0 where
  pub starts : List ℕ
  pub seeds : List ℕ
  pub rates : List ℕ
  pub sum : ℕ

pub record Worked : Type 0 where
  pub words : List ℕ
  -- where its first quotient stands, which in audit is refused
  pub quotient_at : Option ℕ
  pub sizes : Sizes
  -- the numbers of the recorded rows
  pub recorded : List ℕ
  -- the table's words, where they are given whole
  pub table : List (List ℕ)
  -- runs that come out the same in both arithmetics, and runs in audit
  pub trials : List Trial
  pub audits : List Trial
  pub tangents : List TangentTrial
  pub balances : List BalanceTrial

-- of these four more is proved than the table says
abbrev pub words_c : List ℕ
words_c = 1 ∷ 3 ∷ 0 ∷ 3 ∷ 10 ∷ 0 ∷ 3 ∷ 0 ∷ 5 ∷ 0 ∷ 0 ∷ 0 ∷ 11 ∷ 0 ∷ 0 ∷ 0 ∷ []

abbrev pub words_d : List ℕ
words_d = 2 ∷ 3 ∷ 0 ∷ 0 ∷ 4 ∷ 7 ∷ 0 ∷ 1 ∷ 0 ∷ 1 ∷ 0 ∷ 1 ∷ 0 ∷ 8 ∷ 0 ∷ 0 ∷ 0 ∷ 9 ∷ 0 ∷ 0 ∷ 0 ∷ []

abbrev pub words_e : List ℕ
words_e = 2 ∷ 3 ∷ 0 ∷ 0 ∷ 4 ∷ 10 ∷ 0 ∷ 2 ∷ 0 ∷ 5 ∷ 1 ∷ 0 ∷ 0 ∷ 3 ∷ 0 ∷ 0 ∷ 1 ∷ 11 ∷ 0 ∷ 0 ∷ 0 ∷ []

abbrev pub words_p : List ℕ
words_p = 2 ∷ 3 ∷ 0 ∷ 0 ∷ 6 ∷ 10 ∷ 0 ∷ 2 ∷ 0 ∷ 19 ∷ 3 ∷ 0 ∷ 1 ∷ 5 ∷ 0 ∷ 0 ∷ 0 ∷ 11 ∷ 0 ∷ 0 ∷ 0 ∷ 3 ∷ 1 ∷ 1 ∷ 1 ∷ 11 ∷ 0 ∷ 0 ∷ 0 ∷ []

abbrev pub starred : List Worked
starred =
    -- A, whole
    record {
      words = 3 ∷ 1 ∷ 1 ∷ 2 ∷ 0 ∷ 1 ∷ 5 ∷ 2 ∷ 0 ∷ 1 ∷ [];
      quotient_at = none;
      sizes = record { longest = 1; rows = 8; values = 0; turns = 0 };
      recorded = [];
      table =
          (8
          ∷ 5 ∷ 2 ∷ 0 ∷ 1
          ∷ 17 ∷ 0 ∷ 0 ∷ 0
          ∷ 1 ∷ 6 ∷ 5 ∷ 0
          ∷ 16 ∷ 5 ∷ 0 ∷ 0
          ∷ 5 ∷ 7 ∷ 1 ∷ 6
          ∷ 3 ∷ 3 ∷ 3 ∷ 7
          ∷ 5 ∷ 7 ∷ 0 ∷ 6
          ∷ 3 ∷ 4 ∷ 4 ∷ 7
          ∷ [])
          ∷ [];
      trials = record { starts = 3 ∷ 4 ∷ 0 ∷ []; seeds = 0 ∷ 0 ∷ 1 ∷ []; result = whole (3 ∷ 4 ∷ 12 ∷ 4 ∷ 3 ∷ 0 ∷ []) } ∷ [];
      audits = [];
      tangents =
          record {
            table = 4 ∷ 5 ∷ 7 ∷ 1 ∷ 3 ∷ 5 ∷ 6 ∷ 0 ∷ 4 ∷ 3 ∷ 5 ∷ 7 ∷ 6 ∷ 5 ∷ 2 ∷ 0 ∷ 1 ∷ [];
            starts = 3 ∷ 4 ∷ 0 ∷ [];
            rates = 1 ∷ 10 ∷ 0 ∷ [];
            result = whole (3 ∷ 4 ∷ 12 ∷ 0 ∷ 0 ∷ 34 ∷ []);
          }
          ∷ [];
      balances = [];
    }
    -- B, and G, which is B in audit
    ∷ record {
      words = 1 ∷ 3 ∷ 0 ∷ 1 ∷ 5 ∷ 0 ∷ 0 ∷ 0 ∷ [];
      quotient_at = none;
      sizes = record { longest = 1; rows = 10; values = 1; turns = 0 };
      recorded = 0 ∷ [];
      table = [];
      trials = record { starts = 3 ∷ []; seeds = 1 ∷ []; result = whole (9 ∷ 6 ∷ []) } ∷ [];
      audits = record { starts = 65536 ∷ []; seeds = 1 ∷ []; result = whole (0 ∷ 131072 ∷ []) } ∷ [];
      tangents =
          record {
            table = 4 ∷ 5 ∷ 3 ∷ 0 ∷ 1 ∷ 5 ∷ 2 ∷ 0 ∷ 1 ∷ 3 ∷ 1 ∷ 3 ∷ 2 ∷ 5 ∷ 0 ∷ 0 ∷ 0 ∷ [];
            starts = 3 ∷ [];
            rates = 1 ∷ [];
            result = whole (9 ∷ 6 ∷ []);
          }
          ∷ [];
      balances = [];
    }
    -- C: B inside repeat 3
    ∷ record {
      words = words_c;
      quotient_at = none;
      sizes = record { longest = 7; rows = 14; values = 3; turns = 0 };
      recorded = 1 ∷ [];
      table = [];
      trials = record { starts = 2 ∷ []; seeds = 1 ∷ []; result = whole (256 ∷ 1024 ∷ []) } ∷ [];
      audits = [];
      tangents =
          record {
            table = 6 ∷ 10 ∷ 0 ∷ 3 ∷ 0 ∷ 5 ∷ 3 ∷ 0 ∷ 1 ∷ 5 ∷ 2 ∷ 0 ∷ 1 ∷ 3 ∷ 1 ∷ 3 ∷ 2 ∷ 5 ∷ 0 ∷ 0 ∷ 0 ∷ 11 ∷ 0 ∷ 0 ∷ 0 ∷ [];
            starts = 2 ∷ [];
            rates = 1 ∷ [];
            result = whole (256 ∷ 1024 ∷ []);
          }
          ∷ [];
      balances = record { starts = 2 ∷ []; seeds = 4294967295 ∷ []; rates = 5 ∷ []; sum = 4294962176 } ∷ [];
    }
    -- D, the clamp
    ∷ record {
      words = words_d;
      quotient_at = none;
      sizes = record { longest = 2; rows = 11; values = 0; turns = 1 };
      recorded = [];
      table = [];
      trials =
          record { starts = 5 ∷ 2 ∷ []; seeds = 1 ∷ 0 ∷ []; result = whole (2 ∷ 2 ∷ 0 ∷ 0 ∷ []) }
          ∷ record { starts = 1 ∷ 2 ∷ []; seeds = 1 ∷ 0 ∷ []; result = whole (1 ∷ 2 ∷ 1 ∷ 0 ∷ []) }
          ∷ record { starts = 2 ∷ 2 ∷ []; seeds = 1 ∷ 0 ∷ []; result = whole (2 ∷ 2 ∷ 1 ∷ 0 ∷ []) }
          ∷ [];
      audits = [];
      tangents =
          record {
            table = 5 ∷ 7 ∷ 0 ∷ 1 ∷ 0 ∷ 16 ∷ 2 ∷ 0 ∷ 0 ∷ 1 ∷ 0 ∷ 1 ∷ 0 ∷ 8 ∷ 0 ∷ 0 ∷ 0 ∷ 9 ∷ 0 ∷ 0 ∷ 0 ∷ [];
            starts = 5 ∷ 2 ∷ [];
            rates = 1 ∷ 0 ∷ [];
            result = whole (2 ∷ 2 ∷ 0 ∷ 0 ∷ []);
          }
          ∷ [];
      balances = record { starts = 1 ∷ 2 ∷ []; seeds = 7 ∷ 9 ∷ []; rates = 6 ∷ 9 ∷ []; sum = 42 } ∷ [];
    }
    -- E
    ∷ record {
      words = words_e;
      quotient_at = none;
      sizes = record { longest = 7; rows = 19; values = 2; turns = 0 };
      recorded = 2 ∷ [];
      table = [];
      trials = record { starts = 1 ∷ 0 ∷ []; seeds = 1 ∷ 0 ∷ []; result = whole (6 ∷ 4 ∷ 15 ∷ 0 ∷ []) } ∷ [];
      audits = [];
      tangents =
          record {
            table =
                8
                ∷ 10 ∷ 0 ∷ 2 ∷ 0
                ∷ 5 ∷ 5 ∷ 0 ∷ 2
                ∷ 5 ∷ 4 ∷ 0 ∷ 2
                ∷ 3 ∷ 3 ∷ 5 ∷ 4
                ∷ 5 ∷ 1 ∷ 0 ∷ 0
                ∷ 3 ∷ 2 ∷ 2 ∷ 3
                ∷ 3 ∷ 0 ∷ 0 ∷ 1
                ∷ 11 ∷ 0 ∷ 0 ∷ 0
                ∷ [];
            starts = 1 ∷ 0 ∷ [];
            rates = 1 ∷ 0 ∷ [];
            result = whole (6 ∷ 4 ∷ 15 ∷ 0 ∷ []);
          }
          ∷ [];
      balances = record { starts = 1 ∷ 0 ∷ []; seeds = 3 ∷ 9 ∷ []; rates = 5 ∷ 9 ∷ []; sum = 225 } ∷ [];
    }
    -- F
    ∷ record {
      words = 1 ∷ 3 ∷ 0 ∷ 0 ∷ [];
      quotient_at = none;
      sizes = record { longest = 0; rows = 1; values = 0; turns = 0 };
      recorded = [];
      table = (1 ∷ 17 ∷ 0 ∷ 0 ∷ 0 ∷ []) ∷ [];
      trials = record { starts = 7 ∷ []; seeds = 5 ∷ []; result = whole (7 ∷ 5 ∷ []) } ∷ [];
      audits = [];
      tangents = [];
      balances = [];
    }
    -- H: only a is varied, so b alone is needed and x is not saved
    ∷ record {
      words = 2 ∷ 3 ∷ 0 ∷ 0 ∷ 1 ∷ 5 ∷ 0 ∷ 0 ∷ 1 ∷ [];
      quotient_at = none;
      sizes = record { longest = 1; rows = 6; values = 0; turns = 0 };
      recorded = [];
      table =
          (6
          ∷ 5 ∷ 0 ∷ 0 ∷ 1
          ∷ 17 ∷ 0 ∷ 0 ∷ 0
          ∷ 1 ∷ 4 ∷ 2 ∷ 0
          ∷ 16 ∷ 2 ∷ 0 ∷ 0
          ∷ 5 ∷ 5 ∷ 1 ∷ 4
          ∷ 3 ∷ 2 ∷ 2 ∷ 5
          ∷ [])
          ∷ [];
      trials = record { starts = 3 ∷ 4 ∷ []; seeds = 1 ∷ 0 ∷ []; result = whole (12 ∷ 4 ∷ 4 ∷ 0 ∷ []) } ∷ [];
      audits = [];
      tangents = [];
      balances = [];
    }
    -- I: E's two rows the other way about
    ∷ record {
      words = 2 ∷ 3 ∷ 0 ∷ 0 ∷ 4 ∷ 10 ∷ 0 ∷ 2 ∷ 0 ∷ 3 ∷ 0 ∷ 0 ∷ 1 ∷ 5 ∷ 1 ∷ 0 ∷ 0 ∷ 11 ∷ 0 ∷ 0 ∷ 0 ∷ [];
      quotient_at = none;
      sizes = record { longest = 7; rows = 19; values = 2; turns = 0 };
      recorded = 1 ∷ [];
      table = [];
      trials = record { starts = 1 ∷ 0 ∷ []; seeds = 1 ∷ 0 ∷ []; result = whole (2 ∷ 4 ∷ 3 ∷ 0 ∷ []) } ∷ [];
      audits = [];
      tangents = [];
      balances = [];
    }
    -- J. Roles 3 0 0, repeat 2 of { var 1 := var 1 + var 2; var 0 := var 1 × var 0 }. Only b is varied, so each turn's var 1 is needed and var 0 is not: the first
    -- row alone is recorded, S = 2, where both operands would make it 4
    ∷ record {
      words = 3 ∷ 3 ∷ 0 ∷ 0 ∷ 0 ∷ 4 ∷ 10 ∷ 0 ∷ 2 ∷ 0 ∷ 3 ∷ 1 ∷ 1 ∷ 2 ∷ 5 ∷ 0 ∷ 1 ∷ 0 ∷ 11 ∷ 0 ∷ 0 ∷ 0 ∷ [];
      quotient_at = none;
      sizes = record { longest = 7; rows = 14; values = 2; turns = 0 };
      recorded = 1 ∷ [];
      table =
          (14
          ∷ 10 ∷ 0 ∷ 2 ∷ 0
          ∷ 12 ∷ 1 ∷ 0 ∷ 0
          ∷ 3 ∷ 1 ∷ 1 ∷ 2
          ∷ 5 ∷ 0 ∷ 1 ∷ 0
          ∷ 11 ∷ 0 ∷ 0 ∷ 0
          ∷ 17 ∷ 0 ∷ 0 ∷ 0
          ∷ 10 ∷ 0 ∷ 2 ∷ 0
          ∷ 1 ∷ 6 ∷ 3 ∷ 0
          ∷ 16 ∷ 3 ∷ 0 ∷ 0
          ∷ 5 ∷ 7 ∷ 1 ∷ 6
          ∷ 3 ∷ 3 ∷ 3 ∷ 7
          ∷ 13 ∷ 1 ∷ 0 ∷ 0
          ∷ 16 ∷ 4 ∷ 0 ∷ 0
          ∷ 11 ∷ 0 ∷ 0 ∷ 0
          ∷ [])
          ∷ [];
      trials = record { starts = 2 ∷ 1 ∷ 1 ∷ []; seeds = 1 ∷ 0 ∷ 0 ∷ []; result = whole (12 ∷ 3 ∷ 1 ∷ 6 ∷ 0 ∷ 0 ∷ []) } ∷ [];
      audits = [];
      tangents = [];
      balances = [];
    }
    -- K: a quotient, both operands varied
    ∷ record {
      words = 3 ∷ 1 ∷ 1 ∷ 2 ∷ 0 ∷ 1 ∷ 18 ∷ 2 ∷ 0 ∷ 1 ∷ [];
      quotient_at = some 6;
      sizes = record { longest = 1; rows = 9; values = 0; turns = 0 };
      recorded = [];
      table =
          (9
          ∷ 18 ∷ 2 ∷ 0 ∷ 1
          ∷ 17 ∷ 0 ∷ 0 ∷ 0
          ∷ 1 ∷ 6 ∷ 5 ∷ 0
          ∷ 16 ∷ 5 ∷ 0 ∷ 0
          ∷ 18 ∷ 7 ∷ 6 ∷ 1
          ∷ 3 ∷ 3 ∷ 3 ∷ 7
          ∷ 5 ∷ 7 ∷ 0 ∷ 7
          ∷ 18 ∷ 7 ∷ 7 ∷ 1
          ∷ 4 ∷ 4 ∷ 4 ∷ 7
          ∷ [])
          ∷ [];
      trials =
          record {
            starts = 8 ∷ 2 ∷ 0 ∷ [];
            seeds = 0 ∷ 0 ∷ 4 ∷ [];
            result = pos 8 ∷ pos 2 ∷ pos 4 ∷ pos 2 ∷ negsuc 7 ∷ pos 0 ∷ [];
          }
          ∷ [];
      audits = [];
      tangents =
          record {
            table =
                6
                ∷ 18 ∷ 7 ∷ 3 ∷ 1
                ∷ 5 ∷ 6 ∷ 0 ∷ 4
                ∷ 18 ∷ 6 ∷ 6 ∷ 1
                ∷ 18 ∷ 6 ∷ 6 ∷ 1
                ∷ 4 ∷ 5 ∷ 7 ∷ 6
                ∷ 18 ∷ 2 ∷ 0 ∷ 1
                ∷ [];
            starts = 8 ∷ 2 ∷ 0 ∷ [];
            rates = 6 ∷ 1 ∷ 0 ∷ [];
            result = whole (8 ∷ 2 ∷ 4 ∷ 0 ∷ 0 ∷ 1 ∷ []);
          }
          ∷ [];
      balances = [];
    }
    -- L: only the dividend varied
    ∷ record {
      words = 3 ∷ 1 ∷ 0 ∷ 2 ∷ 0 ∷ 1 ∷ 18 ∷ 2 ∷ 0 ∷ 1 ∷ [];
      quotient_at = some 6;
      sizes = record { longest = 1; rows = 6; values = 0; turns = 0 };
      recorded = [];
      table =
          (6
          ∷ 18 ∷ 2 ∷ 0 ∷ 1
          ∷ 17 ∷ 0 ∷ 0 ∷ 0
          ∷ 1 ∷ 6 ∷ 5 ∷ 0
          ∷ 16 ∷ 5 ∷ 0 ∷ 0
          ∷ 18 ∷ 7 ∷ 6 ∷ 1
          ∷ 3 ∷ 3 ∷ 3 ∷ 7
          ∷ [])
          ∷ [];
      trials = record { starts = 8 ∷ 2 ∷ 0 ∷ []; seeds = 0 ∷ 0 ∷ 4 ∷ []; result = whole (8 ∷ 2 ∷ 4 ∷ 2 ∷ 0 ∷ 0 ∷ []) } ∷ [];
      audits = [];
      tangents =
          record {
            table = 2 ∷ 18 ∷ 5 ∷ 3 ∷ 1 ∷ 18 ∷ 2 ∷ 0 ∷ 1 ∷ [];
            starts = 8 ∷ 2 ∷ 0 ∷ [];
            rates = 6 ∷ 1 ∷ 0 ∷ [];
            result = whole (8 ∷ 2 ∷ 4 ∷ 0 ∷ 0 ∷ 3 ∷ []);
          }
          ∷ [];
      balances = [];
    }
    -- M: only the divisor varied
    ∷ record {
      words = 3 ∷ 0 ∷ 1 ∷ 2 ∷ 0 ∷ 1 ∷ 18 ∷ 2 ∷ 0 ∷ 1 ∷ [];
      quotient_at = some 6;
      sizes = record { longest = 1; rows = 8; values = 0; turns = 0 };
      recorded = [];
      table =
          (8
          ∷ 18 ∷ 2 ∷ 0 ∷ 1
          ∷ 17 ∷ 0 ∷ 0 ∷ 0
          ∷ 1 ∷ 6 ∷ 5 ∷ 0
          ∷ 16 ∷ 5 ∷ 0 ∷ 0
          ∷ 18 ∷ 7 ∷ 6 ∷ 1
          ∷ 5 ∷ 7 ∷ 0 ∷ 7
          ∷ 18 ∷ 7 ∷ 7 ∷ 1
          ∷ 4 ∷ 4 ∷ 4 ∷ 7
          ∷ [])
          ∷ [];
      trials =
          record {
            starts = 8 ∷ 2 ∷ 0 ∷ [];
            seeds = 0 ∷ 0 ∷ 4 ∷ [];
            result = pos 8 ∷ pos 2 ∷ pos 4 ∷ pos 0 ∷ negsuc 7 ∷ pos 0 ∷ [];
          }
          ∷ [];
      audits = [];
      tangents =
          record {
            table = 5 ∷ 5 ∷ 6 ∷ 0 ∷ 4 ∷ 18 ∷ 6 ∷ 6 ∷ 1 ∷ 18 ∷ 6 ∷ 6 ∷ 1 ∷ 6 ∷ 5 ∷ 6 ∷ 0 ∷ 18 ∷ 2 ∷ 0 ∷ 1 ∷ [];
            starts = 8 ∷ 2 ∷ 0 ∷ [];
            rates = 6 ∷ 1 ∷ 0 ∷ [];
            result = pos 8 ∷ pos 2 ∷ pos 4 ∷ pos 0 ∷ pos 0 ∷ negsuc 1 ∷ [];
          }
          ∷ [];
      balances = [];
    }
    -- N: x := y / x in a repeat; x is in its own adjoint use, so each turn's is saved
    ∷ record {
      words = 2 ∷ 3 ∷ 1 ∷ 0 ∷ 3 ∷ 10 ∷ 0 ∷ 2 ∷ 0 ∷ 18 ∷ 0 ∷ 1 ∷ 0 ∷ 11 ∷ 0 ∷ 0 ∷ 0 ∷ [];
      quotient_at = some 9;
      sizes = record { longest = 5; rows = 15; values = 2; turns = 0 };
      recorded = 1 ∷ [];
      table =
          (15
          ∷ 10 ∷ 0 ∷ 2 ∷ 0
          ∷ 12 ∷ 0 ∷ 0 ∷ 0
          ∷ 18 ∷ 0 ∷ 1 ∷ 0
          ∷ 11 ∷ 0 ∷ 0 ∷ 0
          ∷ 17 ∷ 0 ∷ 0 ∷ 0
          ∷ 10 ∷ 0 ∷ 2 ∷ 0
          ∷ 13 ∷ 0 ∷ 0 ∷ 0
          ∷ 1 ∷ 4 ∷ 2 ∷ 0
          ∷ 16 ∷ 2 ∷ 0 ∷ 0
          ∷ 18 ∷ 5 ∷ 4 ∷ 0
          ∷ 3 ∷ 3 ∷ 3 ∷ 5
          ∷ 5 ∷ 5 ∷ 1 ∷ 5
          ∷ 18 ∷ 5 ∷ 5 ∷ 0
          ∷ 4 ∷ 2 ∷ 2 ∷ 5
          ∷ 11 ∷ 0 ∷ 0 ∷ 0
          ∷ [])
          ∷ [];
      trials = record { starts = 2 ∷ 8 ∷ []; seeds = 4 ∷ 0 ∷ []; result = whole (2 ∷ 8 ∷ 4 ∷ 0 ∷ []) } ∷ [];
      audits = [];
      tangents =
          record {
            table =
                8
                ∷ 10 ∷ 0 ∷ 2 ∷ 0
                ∷ 18 ∷ 5 ∷ 3 ∷ 0
                ∷ 5 ∷ 4 ∷ 1 ∷ 2
                ∷ 18 ∷ 4 ∷ 4 ∷ 0
                ∷ 18 ∷ 4 ∷ 4 ∷ 0
                ∷ 4 ∷ 2 ∷ 5 ∷ 4
                ∷ 18 ∷ 0 ∷ 1 ∷ 0
                ∷ 11 ∷ 0 ∷ 0 ∷ 0
                ∷ [];
            starts = 2 ∷ 8 ∷ [];
            rates = 2 ∷ 8 ∷ [];
            result = whole (2 ∷ 8 ∷ 2 ∷ 0 ∷ []);
          }
          ∷ [];
      balances = [];
    }
    -- O: a loop with a test, that its test ends after three turns, that its bound ends, and that does no turn. Roles 3 0, while x < y, at most 5: x := x + x
    ∷ record {
      words = 2 ∷ 3 ∷ 0 ∷ 0 ∷ 3 ∷ 19 ∷ 5 ∷ 0 ∷ 1 ∷ 3 ∷ 0 ∷ 0 ∷ 0 ∷ 11 ∷ 0 ∷ 0 ∷ 0 ∷ [];
      quotient_at = none;
      sizes = record { longest = 11; rows = 10; values = 0; turns = 1 };
      recorded = [];
      table =
          (10
          ∷ 19 ∷ 5 ∷ 0 ∷ 1
          ∷ 3 ∷ 0 ∷ 0 ∷ 0
          ∷ 11 ∷ 0 ∷ 0 ∷ 0
          ∷ 17 ∷ 0 ∷ 0 ∷ 0
          ∷ 20 ∷ 0 ∷ 0 ∷ 0
          ∷ 1 ∷ 4 ∷ 2 ∷ 0
          ∷ 16 ∷ 2 ∷ 0 ∷ 0
          ∷ 3 ∷ 2 ∷ 2 ∷ 4
          ∷ 3 ∷ 2 ∷ 2 ∷ 4
          ∷ 11 ∷ 0 ∷ 0 ∷ 0
          ∷ [])
          ∷ [];
      trials =
          record { starts = 1 ∷ 8 ∷ []; seeds = 1 ∷ 0 ∷ []; result = whole (8 ∷ 8 ∷ 8 ∷ 0 ∷ []) }
          ∷ record { starts = 1 ∷ 1000 ∷ []; seeds = 1 ∷ 0 ∷ []; result = whole (32 ∷ 1000 ∷ 32 ∷ 0 ∷ []) }
          ∷ record { starts = 9 ∷ 8 ∷ []; seeds = 1 ∷ 0 ∷ []; result = whole (9 ∷ 8 ∷ 1 ∷ 0 ∷ []) }
          ∷ [];
      audits = [];
      tangents =
          record {
            table = 4 ∷ 19 ∷ 5 ∷ 0 ∷ 1 ∷ 3 ∷ 2 ∷ 2 ∷ 2 ∷ 3 ∷ 0 ∷ 0 ∷ 0 ∷ 11 ∷ 0 ∷ 0 ∷ 0 ∷ [];
            starts = 1 ∷ 8 ∷ [];
            rates = 1 ∷ 0 ∷ [];
            result = whole (8 ∷ 8 ∷ 8 ∷ 0 ∷ []);
          }
          ∷ record {
            table = 4 ∷ 19 ∷ 5 ∷ 0 ∷ 1 ∷ 3 ∷ 2 ∷ 2 ∷ 2 ∷ 3 ∷ 0 ∷ 0 ∷ 0 ∷ 11 ∷ 0 ∷ 0 ∷ 0 ∷ [];
            starts = 9 ∷ 8 ∷ [];
            rates = 1 ∷ 0 ∷ [];
            result = whole (9 ∷ 8 ∷ 1 ∷ 0 ∷ []);
          }
          ∷ [];
      balances = record { starts = 1 ∷ 8 ∷ []; seeds = 3 ∷ 0 ∷ []; rates = 5 ∷ 9 ∷ []; sum = 120 } ∷ [];
    }
    -- P: one inside a repeat, which saves. Roles 3 0, repeat 2 of { while x < y, at most 3: x := x × x; y := y + y }. From 2 and 5 the loop does two turns and then
    -- none, from 2 and 300 all three and then one
    ∷ record {
      words = words_p;
      quotient_at = none;
      sizes = record { longest = 19; rows = 20; values = 6; turns = 2 };
      recorded = 2 ∷ [];
      table =
          (20
          ∷ 10 ∷ 0 ∷ 2 ∷ 0
          ∷ 19 ∷ 3 ∷ 0 ∷ 1
          ∷ 12 ∷ 0 ∷ 0 ∷ 0
          ∷ 5 ∷ 0 ∷ 0 ∷ 0
          ∷ 11 ∷ 0 ∷ 0 ∷ 0
          ∷ 3 ∷ 1 ∷ 1 ∷ 1
          ∷ 11 ∷ 0 ∷ 0 ∷ 0
          ∷ 17 ∷ 0 ∷ 0 ∷ 0
          ∷ 10 ∷ 0 ∷ 2 ∷ 0
          ∷ 16 ∷ 3 ∷ 0 ∷ 0
          ∷ 20 ∷ 0 ∷ 0 ∷ 0
          ∷ 13 ∷ 0 ∷ 0 ∷ 0
          ∷ 1 ∷ 4 ∷ 2 ∷ 0
          ∷ 16 ∷ 2 ∷ 0 ∷ 0
          ∷ 5 ∷ 5 ∷ 0 ∷ 4
          ∷ 3 ∷ 2 ∷ 2 ∷ 5
          ∷ 5 ∷ 5 ∷ 0 ∷ 4
          ∷ 3 ∷ 2 ∷ 2 ∷ 5
          ∷ 11 ∷ 0 ∷ 0 ∷ 0
          ∷ 11 ∷ 0 ∷ 0 ∷ 0
          ∷ [])
          ∷ [];
      trials =
          record { starts = 2 ∷ 5 ∷ []; seeds = 1 ∷ 0 ∷ []; result = whole (16 ∷ 20 ∷ 32 ∷ 0 ∷ []) }
          ∷ record { starts = 2 ∷ 300 ∷ []; seeds = 1 ∷ 0 ∷ []; result = whole (65536 ∷ 1200 ∷ 524288 ∷ 0 ∷ []) }
          ∷ [];
      audits = [];
      tangents =
          record {
            table =
                10
                ∷ 10 ∷ 0 ∷ 2 ∷ 0
                ∷ 19 ∷ 3 ∷ 0 ∷ 1
                ∷ 5 ∷ 5 ∷ 0 ∷ 2
                ∷ 5 ∷ 4 ∷ 0 ∷ 2
                ∷ 3 ∷ 2 ∷ 5 ∷ 4
                ∷ 5 ∷ 0 ∷ 0 ∷ 0
                ∷ 11 ∷ 0 ∷ 0 ∷ 0
                ∷ 16 ∷ 3 ∷ 0 ∷ 0
                ∷ 3 ∷ 1 ∷ 1 ∷ 1
                ∷ 11 ∷ 0 ∷ 0 ∷ 0
                ∷ [];
            starts = 2 ∷ 5 ∷ [];
            rates = 1 ∷ 0 ∷ [];
            result = whole (16 ∷ 20 ∷ 32 ∷ 0 ∷ []);
          }
          ∷ [];
      balances = record { starts = 2 ∷ 5 ∷ []; seeds = 3 ∷ 9 ∷ []; rates = 5 ∷ 9 ∷ []; sum = 480 } ∷ [];
    }
    -- Q: one inside an "if". Roles 3 0 1, if x < y { while x < y, at most 4: x := x × z } else { x := x + z }
    ∷ record {
      words = 3 ∷ 3 ∷ 0 ∷ 1 ∷ 0 ∷ 7 ∷ 7 ∷ 0 ∷ 0 ∷ 1 ∷ 19 ∷ 4 ∷ 0 ∷ 1 ∷ 5 ∷ 0 ∷ 0 ∷ 2 ∷ 11 ∷ 0 ∷ 0 ∷ 0 ∷ 8 ∷ 0 ∷ 0 ∷ 0 ∷ 3 ∷ 0 ∷ 0 ∷ 2 ∷ 9 ∷ 0 ∷ 0 ∷ 0 ∷ [];
      quotient_at = none;
      sizes = record { longest = 10; rows = 27; values = 4; turns = 2 };
      recorded = 2 ∷ [];
      table = [];
      trials =
          record { starts = 2 ∷ 20 ∷ 3 ∷ []; seeds = 1 ∷ 0 ∷ 0 ∷ []; result = whole (54 ∷ 20 ∷ 3 ∷ 27 ∷ 0 ∷ 54 ∷ []) }
          ∷ record { starts = 1 ∷ 1000 ∷ 2 ∷ []; seeds = 1 ∷ 0 ∷ 0 ∷ []; result = whole (16 ∷ 1000 ∷ 2 ∷ 16 ∷ 0 ∷ 32 ∷ []) }
          ∷ record { starts = 9 ∷ 8 ∷ 3 ∷ []; seeds = 1 ∷ 0 ∷ 0 ∷ []; result = whole (12 ∷ 8 ∷ 3 ∷ 1 ∷ 0 ∷ 1 ∷ []) }
          ∷ [];
      audits = [];
      tangents =
          record {
            table =
                11
                ∷ 7 ∷ 0 ∷ 0 ∷ 1
                ∷ 19 ∷ 4 ∷ 0 ∷ 1
                ∷ 5 ∷ 7 ∷ 2 ∷ 3
                ∷ 5 ∷ 6 ∷ 0 ∷ 5
                ∷ 3 ∷ 3 ∷ 7 ∷ 6
                ∷ 5 ∷ 0 ∷ 0 ∷ 2
                ∷ 11 ∷ 0 ∷ 0 ∷ 0
                ∷ 8 ∷ 0 ∷ 0 ∷ 0
                ∷ 3 ∷ 3 ∷ 3 ∷ 5
                ∷ 3 ∷ 0 ∷ 0 ∷ 2
                ∷ 9 ∷ 0 ∷ 0 ∷ 0
                ∷ [];
            starts = 2 ∷ 20 ∷ 3 ∷ [];
            rates = 1 ∷ 0 ∷ 1 ∷ [];
            result = whole (54 ∷ 20 ∷ 3 ∷ 81 ∷ 0 ∷ 0 ∷ []);
          }
          ∷ [];
      balances = record { starts = 2 ∷ 20 ∷ 3 ∷ []; seeds = 5 ∷ 0 ∷ 0 ∷ []; rates = 2 ∷ 0 ∷ 3 ∷ []; sum = 1080 } ∷ [];
    }
    -- R: a loop that may do no turn, so that what its body would overwrite is still varied behind it and useful before it. Roles 1 0 2,
    -- { while x < n, at most 2: x := n }; y := x
    ∷ record {
      words = 3 ∷ 1 ∷ 0 ∷ 2 ∷ 0 ∷ 4 ∷ 19 ∷ 2 ∷ 0 ∷ 1 ∷ 1 ∷ 0 ∷ 1 ∷ 0 ∷ 11 ∷ 0 ∷ 0 ∷ 0 ∷ 1 ∷ 2 ∷ 0 ∷ 0 ∷ [];
      quotient_at = none;
      sizes = record { longest = 6; rows = 11; values = 0; turns = 1 };
      recorded = [];
      table =
          (11
          ∷ 19 ∷ 2 ∷ 0 ∷ 1
          ∷ 1 ∷ 0 ∷ 1 ∷ 0
          ∷ 11 ∷ 0 ∷ 0 ∷ 0
          ∷ 1 ∷ 2 ∷ 0 ∷ 0
          ∷ 17 ∷ 0 ∷ 0 ∷ 0
          ∷ 1 ∷ 6 ∷ 5 ∷ 0
          ∷ 16 ∷ 5 ∷ 0 ∷ 0
          ∷ 3 ∷ 3 ∷ 3 ∷ 6
          ∷ 20 ∷ 0 ∷ 0 ∷ 0
          ∷ 16 ∷ 3 ∷ 0 ∷ 0
          ∷ 11 ∷ 0 ∷ 0 ∷ 0
          ∷ [])
          ∷ [];
      trials =
          record { starts = 5 ∷ 2 ∷ 0 ∷ []; seeds = 0 ∷ 0 ∷ 1 ∷ []; result = whole (5 ∷ 2 ∷ 5 ∷ 1 ∷ 0 ∷ 0 ∷ []) }
          ∷ record { starts = 1 ∷ 2 ∷ 0 ∷ []; seeds = 0 ∷ 0 ∷ 1 ∷ []; result = whole (2 ∷ 2 ∷ 2 ∷ 0 ∷ 0 ∷ 0 ∷ []) }
          ∷ [];
      audits = [];
      tangents =
          record {
            table = 6 ∷ 19 ∷ 2 ∷ 0 ∷ 1 ∷ 16 ∷ 3 ∷ 0 ∷ 0 ∷ 1 ∷ 0 ∷ 1 ∷ 0 ∷ 11 ∷ 0 ∷ 0 ∷ 0 ∷ 1 ∷ 5 ∷ 3 ∷ 0 ∷ 1 ∷ 2 ∷ 0 ∷ 0 ∷ [];
            starts = 5 ∷ 2 ∷ 0 ∷ [];
            rates = 1 ∷ 0 ∷ 0 ∷ [];
            result = whole (5 ∷ 2 ∷ 5 ∷ 0 ∷ 0 ∷ 1 ∷ []);
          }
          ∷ [];
      balances = record { starts = 5 ∷ 2 ∷ 0 ∷ []; seeds = 0 ∷ 0 ∷ 7 ∷ []; rates = 3 ∷ 0 ∷ 0 ∷ []; sum = 21 } ∷ [];
    }
    ∷ []

-- ---- what is compared

-- a run's answer without the table buffer, which `write` shows
pub record Run (A : Arithmetic) : Type 0 where
  pub number : ℕ
  pub place : ℕ
  pub values : List A.Carrier
  pub turns : List ℕ
  pub result : List A.Carrier

-- both runs' numbers, and both sums
pub record BothSums : Type 0 where
  pub adjoint : ℕ
  pub tangent : ℕ
  pub of_rates : ℕ
  pub of_adjoints : ℕ

pub record Findings : Type 0 where
  pub check : Checked
  pub recorded : List ℕ
  pub table : List Written
  pub double_runs : List (Run doubles)
  pub audit_runs : List (Run residues)
  pub tangent_tables : List Written
  pub tangent_doubles : List (Run doubles)
  pub tangent_audits : List (Run residues)
  pub plain_runs : List (Carry doubles)
  pub balances : List BothSums

-- the buffers lent: exactly as long as 01 asks for, and no word of them 0
abbrev pub seven : (A : Arithmetic) → ℕ → List A.Carrier
seven A n = replicate n (A.constant (pos 7))

abbrev pub lent_for : (A : Arithmetic) → Sizes → Trial → Lent A
lent_for A sizes trial =
    record {
      table = replicate (table_room sizes.rows) 7;
      values = seven A sizes.values;
      turns = replicate sizes.turns 7;
      result = seven A (length trial.result);
    }

abbrev pub numbers : (A : Arithmetic) → List ℤ → List A.Carrier
numbers A = map A.constant

-- ---- as 01 states it

abbrev pub run_stated : (A : Arithmetic) → Sizes → Trial → Run A
run_stated A sizes trial =
    record {
      number = 0;
      place = 0;
      values = replicate sizes.values A.zero;
      turns = replicate sizes.turns 0;
      result = numbers A trial.result;
    }

abbrev pub tangent_stated : (A : Arithmetic) → TangentTrial → Run A
tangent_stated A trial = record { number = 0; place = 0; values = []; turns = []; result = numbers A trial.result }

-- in audit, where there is a quotient: 13 at its row, every buffer as it was lent
abbrev pub refused_at : (values turns result place : ℕ) → Run residues
refused_at values turns result place =
    record { number = 13; place = place; values = seven residues values; turns = replicate turns 7; result = seven residues result }

abbrev pub audit_stated : Worked → Trial → Run residues
audit_stated w trial = by w.quotient_at
  where
    by : Option ℕ → Run residues
    by none = run_stated residues w.sizes trial
    by (some place) = refused_at w.sizes.values w.sizes.turns (length trial.result) place

abbrev pub tangent_audit_stated : Worked → TangentTrial → Run residues
tangent_audit_stated w trial = by w.quotient_at
  where
    by : Option ℕ → Run residues
    by none = tangent_stated residues trial
    by (some place) = refused_at 0 0 (length trial.result) place

unfoldable pub stated : Worked → Findings
stated w =
    record {
      check = record { number = 0; place = 0; sizes = w.sizes };
      recorded = w.recorded;
      table = map (λ words. record { number = 0; place = 0; table = words }) w.table;
      double_runs = map (run_stated doubles w.sizes) w.trials;
      audit_runs = map (audit_stated w) (w.trials ++ w.audits);
      tangent_tables = map (λ trial. record { number = 0; place = 0; table = trial.table }) w.tangents;
      tangent_doubles = map (tangent_stated doubles) w.tangents;
      tangent_audits = map (tangent_audit_stated w) w.tangents;
      plain_runs = map (λ trial. record { number = 0; place = 0; result = numbers doubles trial.result }) w.tangents;
      balances = map (λ trial. record { adjoint = 0; tangent = 0; of_rates = trial.sum; of_adjoints = trial.sum }) w.balances;
    }

-- ---- as the definitions have it

unfoldable pub recorded_rows : Tree Marked MarkedTest → List ℕ
recorded_rows done = []
recorded_rows (one m k) = also_this m.saved (recorded_rows k)
  where
    also_this : Bool → List ℕ → List ℕ
    also_this true rest = m.row.index ∷ rest
    also_this false rest = rest
recorded_rows (fork f a b k) = recorded_rows a ++ recorded_rows b ++ recorded_rows k
recorded_rows (again l a k) = recorded_rows a ++ recorded_rows k

unfoldable pub recorded_found : Answer Sheet → List ℕ
unfolding marked recorded_rows
recorded_found (refused r) = []
recorded_found (given sheet) = recorded_rows (marked sheet)

abbrev pub run_back : (A : Arithmetic) → Ran A → Run A
run_back A answer =
    record {
      number = answer.number;
      place = answer.place;
      values = answer.lent.values;
      turns = answer.lent.turns;
      result = answer.lent.result;
    }

unfoldable pub run_found : (A : Arithmetic) → List ℕ → Sizes → Trial → Run A
unfolding run
run_found A words sizes trial = run_back A (run A words (numbers A (whole trial.starts)) (numbers A (whole trial.seeds)) (lent_for A sizes trial))

unfoldable pub tangent_found : (A : Arithmetic) → List ℕ → TangentTrial → Run A
unfolding run_tangent
tangent_found A words trial =
    run_back A
    (run_tangent A words (numbers A (whole trial.starts)) (numbers A (whole trial.rates))
    (without_stacks A (replicate (length trial.table) 7) (seven A (length trial.result))))

unfoldable pub plain_found : List ℕ → TangentTrial → Carry doubles
unfolding plain
plain_found words trial = plain doubles words (numbers doubles (whole trial.starts)) (numbers doubles (whole trial.rates)) (seven doubles (length trial.result))

-- on buffers as long as the adjoint's run asks for: a tangent table of these sheets is shorter
unfoldable pub balance_found : List ℕ → Answer Sheet → Sizes → BalanceTrial → BothSums
unfolding run run_tangent sum_over
balance_found words (refused r) sizes trial = record { adjoint = number_of r; tangent = number_of r; of_rates = 0; of_adjoints = 0 }
balance_found words (given sheet) sizes trial =
    let lent = lent_for residues sizes (record { starts = trial.starts; seeds = trial.seeds; result = whole (trial.starts ++ trial.starts) }) in
    let adjoint = run residues words trial.starts trial.seeds lent in
    let tangent = run_tangent residues words trial.starts trial.rates (without_stacks residues lent.table lent.result) in
    record {
      adjoint = adjoint.number;
      tangent = tangent.number;
      of_rates = seeds_by_rates sheet trial.seeds tangent;
      of_adjoints = adjoints_by_rates sheet trial.rates adjoint;
    }

unfoldable pub found : Worked → Findings
unfolding check read recorded_found write run_found write_tangent tangent_found plain_found balance_found
found w =
    record {
      check = check w.words;
      recorded = recorded_found (read w.words);
      table = map (λ words. write w.words (replicate (length words) 7)) w.table;
      double_runs = map (run_found doubles w.words w.sizes) w.trials;
      audit_runs = map (run_found residues w.words w.sizes) (w.trials ++ w.audits);
      tangent_tables = map (λ trial. write_tangent w.words (replicate (length trial.table) 7)) w.tangents;
      tangent_doubles = map (tangent_found doubles w.words) w.tangents;
      tangent_audits = map (tangent_found residues w.words) w.tangents;
      plain_runs = map (plain_found w.words) w.tangents;
      balances = map (balance_found w.words (read w.words) w.sizes) w.balances;
    }
