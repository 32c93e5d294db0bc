-- A group of numbers, field by field.
use Rattle.std.proofs.Common.{◌≡◌, ℕ, suc, ◌<◌, ◌+◌, ◌-◌, Bool, true, false, List, [], ◌∷◌, ◌++◌, length, take, Option, Some, None, option_map, slice_set, refl, inl, inr, ap, ◌∙◌, sym, arith, nat_le, option_and_then, not, ◌&&◌, if◌then◌else◌}
use Rattle.std.proofs.lemmas.Bool.{le-leb, lt-leb}
use Rattle.std.proofs.lemmas.Bool.Decides.{leb_tells}
use Rattle.std.proofs.lemmas.List.{take_more_set, length-set, append_assoc, append-nil}
use Rattle.text.specs.Lines.{group, is_slash, before_slash, after_slash, has_slash, ends_as, readings}
use Rattle.text.specs.declared.fields.End.{End}
use Rattle.text.specs.declared.fields.End.TheVariants.{Slash, Line}

-- a group by whether it ends as asked within its room, by its numbers, and by what is left behind it
abbrev made : {A : Type 0} → Bool → Option (List A) → List (List ℕ) → Option (List A × List (List ℕ))
made ok xs left = if ok then option_map (λ xs. (xs, left)) xs else None

-- a group whose first field is known to be a slash or not
abbrev ends_by : End → Bool → List (List ℕ) → Bool
ends_by Slash s fs = if s then true else has_slash fs
ends_by Line s fs = not (if s then true else has_slash fs)

abbrev group_by : {A : Type 0} → (List ℕ → Option A) → End → ℕ → List ℕ → List (List ℕ) → Bool → Option (List A × List (List ℕ))
group_by said end room f fs s =
    made (ends_by end s fs && nat_le (length (if s then [] else f ∷ before_slash fs)) room) (readings said (if s then [] else f ∷ before_slash fs)) (if s then fs else after_slash fs)

made_step : {A : Type 0} (x : A) (ok : Bool) (xs : Option (List A)) (left : List (List ℕ)) →
    made ok (option_map (λ ys. x ∷ ys) xs) left ≡ option_map (λ p. (x ∷ p.0, p.1)) (made ok xs left)
made_step x true (Some xs) left = refl
made_step x true None left = refl
made_step x false xs left = refl

group_known : {A : Type 0} (said : List ℕ → Option A) (end : End) (room : ℕ) (f : List ℕ) (fs : List (List ℕ)) (s : Bool) → is_slash f ≡ s →
    group said end room (f ∷ fs) ≡ group_by said end room f fs s
group_known said Slash room f fs s is = ap (group_by said Slash room f fs) is
group_known said Line room f fs s is = ap (group_by said Line room f fs) is

ends_on : (end : End) (fs : List (List ℕ)) → ends_by end false fs ≡ ends_as end fs
ends_on Slash fs = refl
ends_on Line fs = refl

le_suc : (a b : ℕ) → nat_le (suc a) (suc b) ≡ nat_le a b
le_suc a b =
    elim (leb_tells a b) [ inl (t, h) ↦ le-leb (suc a) (suc b) (omega (arith, h)) ∙ sym t | inr (t, h) ↦ lt-leb (suc a) (suc b) (omega (arith, h)) ∙ sym t ]

-- where a number follows, it stands before the numbers of what follows then
pub group_step : {A : Type 0} (said : List ℕ → Option A) (end : End) (room : ℕ) (f : List ℕ) (fs : List (List ℕ)) (x : A) → is_slash f ≡ false → said f ≡ Some x →
    group said end (suc room) (f ∷ fs) ≡ option_map (λ p. (x ∷ p.0, p.1)) (group said end room fs)
group_step said end room f fs x other says =
    group_known said end (suc room) f fs false other
    ∙ ap (λ e. made (ends_by end false fs && e) (readings said (f ∷ before_slash fs)) (after_slash fs)) (le_suc (length (before_slash fs)) room)
    ∙ ap (λ o. made (ends_by end false fs && nat_le (length (before_slash fs)) room) (option_and_then (λ x. option_map (λ xs. x ∷ xs) (readings said (before_slash fs))) o) (after_slash fs)) says
    ∙ ap (λ e. made (e && nat_le (length (before_slash fs)) room) (option_map (λ xs. x ∷ xs) (readings said (before_slash fs))) (after_slash fs)) (ends_on end fs)
    ∙ made_step x (ends_as end fs && nat_le (length (before_slash fs)) room) (readings said (before_slash fs)) (after_slash fs)

least : (room : ℕ) → nat_le 0 room ≡ true
least room = le-leb 0 room (omega arith)

-- at a slash the group has no more numbers, nor at the line's end
group_at_slash : {A : Type 0} (said : List ℕ → Option A) (room : ℕ) (f : List ℕ) (fs : List (List ℕ)) → is_slash f ≡ true → group said Slash room (f ∷ fs) ≡ Some ([], fs)
group_at_slash {A} said room f fs is = group_known said Slash room f fs true is ∙ ap (λ e. made {A = A} e (Some []) fs) (least room)

group_at_end : {A : Type 0} (said : List ℕ → Option A) (room : ℕ) → group said Line room [] ≡ Some ([], [])
group_at_end {A} said room = ap (λ e. made {A = A} e (Some []) []) (least room)

-- the numbers so far before those of a group
abbrev pub after : {A : Type 0} → List A → Option (List A × List (List ℕ)) → Option (List A × List (List ℕ))
after xs o = option_map (λ p. (xs ++ p.0, p.1)) o

after_more : {A : Type 0} (xs : List A) (x : A) (o : Option (List A × List (List ℕ))) → after xs (option_map (λ p. (x ∷ p.0, p.1)) o) ≡ after (xs ++ x ∷ []) o
after_more xs x None = refl
after_more xs x (Some p) = ap (λ ys. Some (ys, p.1)) (sym (append_assoc xs (x ∷ []) p.0))

-- one more number is stored
pub group_turn : {A : Type 0} {stored : List A} (said : List ℕ → Option A) (end : End) (all left : List (List ℕ)) (f : List ℕ) (fs : List (List ℕ)) (into : List A) (count : ℕ) (x : A) →
    count < length into → is_slash f ≡ false → said f ≡ Some x → left ≡ f ∷ fs → stored ≡ slice_set into count x →
    group said end (length into) all ≡ after (take count into) (group said end (length into - count) left) →
    group said end (length stored) all ≡ after (take (count + 1) stored) (group said end (length stored - (count + 1)) fs)
group_turn {A} {stored} said end all left f fs into count x inside other says next stores so_far =
    let long : length stored ≡ length into = ap length stores ∙ length-set into count x in
    let one_less : length into - count ≡ suc (length stored - (count + 1)) = omega (arith, long) in
    ap (λ n. group said end n all) long ∙ so_far
    ∙ ap (λ l. after (take count into) (group said end (length into - count) l)) next
    ∙ ap (λ n. after (take count into) (group said end n (f ∷ fs))) one_less
    ∙ ap (after (take count into)) (group_step said end (length stored - (count + 1)) f fs x other says)
    ∙ after_more (take count into) x (group said end (length stored - (count + 1)) fs)
    ∙ ap (λ xs. after xs (group said end (length stored - (count + 1)) fs)) (sym (take_more_set into count x inside) ∙ ap (take (count + 1)) (sym stores))

-- what the end of a group says of all of it
pub group_done : {A : Type 0} (xs : List A) (all o : Option (List A × List (List ℕ))) (left : List (List ℕ)) → all ≡ after xs o → o ≡ Some ([], left) → Some (xs, left) ≡ all
group_done xs all o left so_far ends = sym (so_far ∙ ap (after xs) ends ∙ ap (λ ys. Some (ys, left)) (append-nil xs))

-- the same by what is known where the reading stops
pub group_here_end : {A : Type 0} (said : List ℕ → Option A) (end : End) (room : ℕ) (fs left : List (List ℕ)) → end ≡ Line → fs ≡ [] → left ≡ [] → group said end room fs ≡ Some ([], left)
group_here_end said end room fs left asked none nothing =
    ap (λ e. group said e room fs) asked ∙ ap (group said Line room) none ∙ group_at_end said room ∙ ap (λ l. Some ([], l)) (sym nothing)

pub group_here_slash : {A : Type 0} (said : List ℕ → Option A) (end : End) (room : ℕ) (f : List ℕ) (fs left : List (List ℕ)) → end ≡ Slash → is_slash f ≡ true → fs ≡ f ∷ left → group said end room fs ≡ Some ([], left)
group_here_slash said end room f fs left asked is there =
    ap (λ e. group said e room fs) asked ∙ ap (group said Slash room) there ∙ group_at_slash said room f left is
