-- How much of each buffer a request asks for.
use Rattle.std.specs.Prelude.{ℕ, min, List, [], ◌∷◌, Option, Some, None, option_map, option_and_then}
use Rattle.text.specs.Lines.{group}
use Rattle.text.specs.Numbers.{length_said}
use Rattle.text.specs.declared.fields.End.TheVariants.{Slash}
use Rattle.text.specs.declared.lend.Lends.{Lends}
use Rattle.text.specs.declared.lend.Lends.TheVariants.{Nothing, Table, Result, TableAndResult, All}

-- lengths of the table's buffer, of both stacks' and of the result's
pub record Lengths : Type 0 where
  pub room : ℕ
  pub values : ℕ
  pub turns : ℕ
  pub result : ℕ

-- the lengths that a line gives, in this order: as many as there are buffers that the verb lends, and 0 of the others
abbrev pub asked : Lends → List ℕ → Option Lengths
asked Nothing [] = Some (record { room = 0; values = 0; turns = 0; result = 0 })
asked Table (a ∷ []) = Some (record { room = a; values = 0; turns = 0; result = 0 })
asked Result (d ∷ []) = Some (record { room = 0; values = 0; turns = 0; result = d })
asked TableAndResult (a ∷ d ∷ []) = Some (record { room = a; values = 0; turns = 0; result = d })
asked All (a ∷ b ∷ c ∷ d ∷ []) = Some (record { room = a; values = b; turns = c; result = d })
asked _ _ = None

-- each length as asked for, or all that there is
abbrev pub cut : Lengths → Lengths
cut n = record { room = min n.room 32768; values = min n.values 4096; turns = min n.turns 4096; result = min n.result 4096 }

-- the lengths that a line begins with, a slash behind them, and the fields that follow
abbrev pub lengths_read : Lends → List (List ℕ) → Option (Lengths × List (List ℕ))
lengths_read lends fs =
    option_and_then (λ g. option_map (λ n. (cut n, g.1)) (asked lends g.0)) (group length_said Slash 4 fs)
