-- Every bound of 01 on a sheet, once. 02 changes several of them here.
use Rattle.std.specs.Prelude.{ℕ}

pub record Bounds : Type 0 where
  pub fewest_variables : ℕ
  pub variables : ℕ
  pub greatest_role : ℕ
  pub constants : ℕ
  pub rows : ℕ
  pub row_words : ℕ
  pub turns : ℕ
  pub depth : ℕ
  pub longest_run : ℕ

-- "V, 1 to 32"; "0 parameter, 1 independent, 2 dependent, 3 both"; "K, 0 to 64"; "N, 0 to 512; then N rows of four words";
-- "repeat a times, a from 1 to 1000"; "blocks nest at most 8 deep"; "W is at most 4,096"
abbrev pub limit : Bounds
limit =
    record {
      fewest_variables = 1;
      variables = 32;
      greatest_role = 3;
      constants = 64;
      rows = 512;
      row_words = 4;
      turns = 1000;
      depth = 8;
      longest_run = 4096;
    }
