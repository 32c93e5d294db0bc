-- The bound on a line that is looked at, the fields that it has, and the groups of numbers that they are.
use Rattle.std.specs.Prelude.{ℕ, ◌≤◌, ◌==◌, Bool, true, false, not, ◌&&◌, if◌then◌else◌, nat_le, List, [], ◌∷◌, length, Option, Some, None, option_map, option_and_then}
use Rattle.std.specs.List.{slice_split}
use Rattle.std.specs.Borrow.{Bor}
use Rattle.text.specs.declared.fields.Fields.{Fields}
use Rattle.text.specs.declared.fields.End.{End}
use Rattle.text.specs.declared.fields.End.TheVariants.{Slash, Line}

-- "Lines may be up to 65,535 bytes"
abbrev pub Taken : List ℕ → Type 0
Taken line = length line ≤ 65535

-- what stands between the spaces of a line, 32 each: nothing, before the first, between two and after the last, is a field too
abbrev pub fields : List ℕ → List (List ℕ)
fields line = slice_split (λ b. b == 32) line

-- the fields of what is left of a line, none where nothing is left
abbrev pub fields_of_rest : Option (Bor (List ℕ)) → List (List ℕ)
fields_of_rest None = []
fields_of_rest (Some rest) = fields rest.now

abbrev pub fields_left : Fields → List (List ℕ)
fields_left it = fields_of_rest it.rest

-- a field that is one slash ends a group
abbrev pub is_slash : List ℕ → Bool
is_slash [] = false
is_slash (b ∷ []) = b == 47
is_slash (b ∷ c ∷ bs) = false

-- the fields before the first slash, those behind it, and whether there is one
abbrev pub before_slash : List (List ℕ) → List (List ℕ)
before_slash [] = []
before_slash (f ∷ fs) = if is_slash f then [] else f ∷ before_slash fs

abbrev pub after_slash : List (List ℕ) → List (List ℕ)
after_slash [] = []
after_slash (f ∷ fs) = if is_slash f then fs else after_slash fs

abbrev pub has_slash : List (List ℕ) → Bool
has_slash [] = false
has_slash (f ∷ fs) = if is_slash f then true else has_slash fs

-- the group that comes next ends with what is asked for
abbrev pub ends_as : End → List (List ℕ) → Bool
ends_as Slash fs = has_slash fs
ends_as Line fs = not (has_slash fs)

-- what the fields say, where each says something
abbrev pub readings : {A : Type 0} → (List ℕ → Option A) → List (List ℕ) → Option (List A)
readings said [] = Some []
readings said (f ∷ fs) = option_and_then (λ x. option_map (λ xs. x ∷ xs) (readings said fs)) (said f)

-- the numbers of the group that comes next, and the fields behind it: nothing where it ends otherwise, has more fields than there is room for numbers, or has one that is no number
abbrev pub group : {A : Type 0} → (List ℕ → Option A) → End → ℕ → List (List ℕ) → Option (List A × List (List ℕ))
group said end room fs =
    if ends_as end fs && nat_le (length (before_slash fs)) room
    then option_map (λ xs. (xs, after_slash fs)) (readings said (before_slash fs))
    else None

-- whether the first field is an empty one, and the fields behind it if it is
abbrev pub starts_empty : List (List ℕ) → Bool
starts_empty [] = false
starts_empty ([] ∷ fs) = true
starts_empty ((b ∷ bs) ∷ fs) = false

abbrev pub without_empty : List (List ℕ) → List (List ℕ)
without_empty [] = []
without_empty ([] ∷ fs) = fs
without_empty ((b ∷ bs) ∷ fs) = (b ∷ bs) ∷ fs

-- a group that may be written without a number: an empty field stands for it then, behind which there is room for none
abbrev pub written_group : {A : Type 0} → (List ℕ → Option A) → End → ℕ → List (List ℕ) → Option (List A × List (List ℕ))
written_group said end room fs = group said end (if starts_empty fs then 0 else room) (without_empty fs)
