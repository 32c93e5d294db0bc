-- A loop that lays a list into a buffer from its first place on: zeros, start values, what a run starts from and its result in two halves.
use Prim.Native.Nat.{ℕ, ◌+◌, ◌-◌, ◌≤◌, ◌<◌}
use mathlib.Core.Path.{◌≡◌, refl, sym, ap, ◌∙◌}
use mathlib.Core.Bool.{Bool, cond}
use mathlib.Core.List.{List, [], ◌++◌, append-nil, append_assoc}
use native.Mathlib.Nat.{zero-add}
use native.Mathlib.Numerals.{add-one}
use native.Mathlib.Omega.{arith}
use lib.ListN.{length, get_or, take, drop, set, replicate, length-set, length-drop, length-append, length-replicate, get_or-replicate, drop_of_length-le}
use lib.Seq.{paste, paste-zero, paste-suc, take-length, take_at, drop_at, drop-drop}
use borrow.Author.Rules.{part_to_end}
use borrow.Rule.Slice.PartMut.{put_mid, post_of}
use Rattle.number.specs.Arithmetic.{Arithmetic}
use Rattle.table.specs.Calls.{overwritten}
use Rattle.machine.specs.Actions.{counting}
use Rattle.machine.proofs.RoleLaws.{counting_length, counting_at}
use Rattle.run.specs.declared.Counted.{Counted}
use Rattle.run.specs.Inner.CallSteps.{counts_of, halves_of, HalvesFit, ResultFits}

module _ {X : Type 0} (front before : List X) where
  -- i places are laid
  pub record Filling (i : ℕ) (now : List X) : Type 0 where
    pub within : i ≤ length front
    pub room : length front ≤ length before
    pub long : length now ≡ length before
    pub is : now ≡ paste before 0 front i

  pub filling_starts : length front ≤ length before → Filling 0 before
  filling_starts room = record { within = omega arith; room = room; long = refl; is = paste-zero before 0 front }

  pub filling_goes_on : (i : ℕ) (now : List X) (x z : X) → x ≡ get_or front i z → i < length front → Filling i now → Filling (i + 1) (set now i x)
  filling_goes_on i now x z is h f =
      let enough = f.room in
      record {
        within = omega arith;
        room = enough;
        long = length-set now i x ∙ f.long;
        is =
            rw (add-one i, is, f.is)
            (ap (λ n. set (paste before 0 front i) n (get_or front i z)) (sym (zero-add i)) ∙ paste-suc before 0 front i z (omega arith) h);
      }

  pub filling_ends : (i : ℕ) (now : List X) → length front ≤ i → Filling i now → now ≡ overwritten front before
  unfolding overwritten
  filling_ends i now h f =
      let all : i ≡ length front = omega (arith, f.within) in
      f.is ∙ rw (all, take-length front, zero-add (length front))

-- ---- the lists that are laid

module _ {X : Type 0} (zero : X) (before : List X) where
  abbrev pub Clearing : ℕ → List X → Type 0
  Clearing i now = Filling (replicate (length before) zero) before i now

  pub clearing_starts : Clearing 0 before
  clearing_starts = filling_starts (replicate (length before) zero) before (omega (arith, length-replicate (length before) zero))

  pub clearing_goes_on : (i : ℕ) (now : List X) (x : X) → x ≡ zero → i < length now → Clearing i now → Clearing (i + 1) (set now i x)
  clearing_goes_on i now x is h f =
      let long = f.long in
      let counted = length-replicate (length before) zero in
      filling_goes_on (replicate (length before) zero) before i now x zero (is ∙ sym (get_or-replicate (length before) i zero zero (omega arith)))
      (omega arith) f

  pub clearing_ends : (i : ℕ) (now : List X) → length now ≤ i → Clearing i now → now ≡ replicate (length before) zero
  unfolding overwritten
  clearing_ends i now h f =
      let zeros = replicate (length before) zero in
      let long = f.long in
      let counted = length-replicate (length before) zero in
      filling_ends zeros before i now (omega arith) f
      ∙ rw (drop_of_length-le before {i = length zeros} (omega arith)) (append-nil zeros)

module _ (A : Arithmetic) where
  module _ (counts : ℕ → Bool) (roles : List ℕ) (numbers before : List A.Carrier) where
    abbrev pub Putting : ℕ → List A.Carrier → Type 0
    Putting i now = Filling (counting A counts roles numbers) before i now

    put_length : length (counting A counts roles numbers) ≡ length roles
    put_length = counting_length A counts roles numbers

    pub putting_starts : length roles ≤ length before → Putting 0 before
    putting_starts room = filling_starts (counting A counts roles numbers) before (rw put_length room)

    pub putting_goes_on : (i : ℕ) (now : List A.Carrier) {counted : Bool} (x z : A.Carrier)
        → counted ≡ counts (get_or roles i 0)
        → x ≡ cond counted (get_or numbers i z) A.zero
        → i < length roles
        → i < length numbers
        → Putting i now
        → Putting (i + 1) (set now i x)
    putting_goes_on i now x z told is h there f =
        filling_goes_on (counting A counts roles numbers) before i now x z
        (is ∙ ap (λ b. cond b (get_or numbers i z) A.zero) told ∙ sym (counting_at A counts roles numbers i z h there))
        (rw put_length h) f

    pub putting_ends : (i : ℕ) (now : List A.Carrier) → length roles ≤ i → Putting i now
        → now ≡ overwritten (counting A counts roles numbers) before
    putting_ends i now h f = filling_ends (counting A counts roles numbers) before i now (rw put_length h) f

  -- ---- two halves

  module _ (role : Counted) (roles : List ℕ) (first second into : List A.Carrier) (fits : HalvesFit roles first second into) where
    -- the first half laid, and the second half's place with the numbers laid into it
    pub halves_laid : (now tail : List A.Carrier) → now ≡ overwritten first into
        → tail ≡ overwritten (counting A (counts_of role) roles second) (take (length now - length roles) (drop (length roles) now))
        → put_mid (length roles) (length now - length roles) now tail ≡ overwritten (halves_of A first role roles second) into
    unfolding overwritten halves_of
    halves_laid now tail is then =
        let v = length roles in
        let own = fits.first_fits in
        let numbers = counting A (counts_of role) roles second in
        let counted : length numbers ≡ v = counting_length A (counts_of role) roles second in
        let after : drop v now ≡ drop v into =
        ap (drop v) is ∙ drop_at first (drop (length first) into) v own ∙ ap (λ n. drop n into) own in
        let whole : tail ≡ numbers ++ drop v (drop v into) = then ∙ rw (part_to_end now v, after, counted) in
        let beyond : post_of v (length now - v) now ≡ [] =
        drop_of_length-le (drop v now) {i = length now - v} (omega (arith, length-drop v now)) in
        let before : take v now ≡ first = ap (take v) is ∙ take_at first (drop (length first) into) v own in
        let both : length (first ++ numbers) ≡ v + v = length-append first numbers ∙ omega (arith, own, counted) in
        rw (beyond, before, whole, both, append-nil (numbers ++ drop v (drop v into)), drop-drop v v into)
        (sym (append_assoc first numbers (drop (v + v) into)))

-- what is as long as its buffer leaves none of it
pub all_overwritten : {X : Type 0} (front before : List X) → length before ≤ length front → overwritten front before ≡ front
unfolding overwritten
all_overwritten front before h = rw (drop_of_length-le before {i = length front} h) (append-nil front)

-- a result's halves take the whole of its buffer
pub halves_fit : {X : Type 0} {roles : List ℕ} {first second result : List X} → ResultFits roles first second result → HalvesFit roles first second result
halves_fit fits = record { first_fits = fits.first_fits; second_fits = fits.second_fits; room = omega (arith, fits.result_fits) }

pub result_laid : (A : Arithmetic) (role : Counted) {roles : List ℕ} {first second result : List A.Carrier} → ResultFits roles first second result
    → overwritten (halves_of A first role roles second) result ≡ halves_of A first role roles second
unfolding halves_of
result_laid A role {roles} {first} {second} {result} fits =
    let numbers = counting A (counts_of role) roles second in
    all_overwritten (first ++ numbers) result
    (omega (arith, fits.result_fits, fits.first_fits, length-append first numbers, counting_length A (counts_of role) roles second))
