-- A stack in the first cells of a buffer, with zeros above: pushing a value and taking the top back.
use Prim.Native.Nat.{ℕ, zero, suc, ◌-◌, ◌≤◌, ◌<◌}
use mathlib.Core.Path.{◌≡◌, refl, sym, ap, ◌∙◌}
use mathlib.Core.List.{List, [], ◌∷◌, reverse, reverse-append}
use native.Mathlib.Omega.{arith}
use native.Mathlib.Numerals.{add-one}
use lib.ListN.{length, get_or, take, drop, set, replicate, length-set, length-reverse}
use lib.Seq.{take-suc, take-suc-set, take-set-le, drop-set-lt, drop-cons, drop-drop, get_or-set_same, length-take-le}
use Rattle.machine.specs.Inner.Buffers.{stack_of, Stack}

module _ {X : Type 0} where
  pub stack_length : (height : ℕ) (cells : List X) → height ≤ length cells → length (stack_of height cells) ≡ height
  stack_length height cells h = length-reverse (take height cells) ∙ length-take-le height cells h

  -- the top of a stack is its last cell
  pub stack_top : (height : ℕ) (cells : List X) (z : X) → height < length cells
      → stack_of (suc height) cells ≡ get_or cells height z ∷ stack_of height cells
  stack_top height cells z h = rw (take-suc cells height z h) (reverse-append (take height cells) (get_or cells height z ∷ []))

  pub stack_pushed : (height : ℕ) (cells : List X) (x : X) → height < length cells
      → stack_of (suc height) (set cells height x) ≡ x ∷ stack_of height cells
  stack_pushed height cells x h = rw (take-suc-set cells height x h) (reverse-append (take height cells) (x ∷ []))

  -- what lies above a stack is none of it
  pub stack_below : (height : ℕ) (cells : List X) (x : X) → stack_of height (set cells height x) ≡ stack_of height cells
  stack_below height cells x = ap reverse (take-set-le height cells height x (omega arith))

  -- ---- the zeros above

  module _ (zero' : X) where
    zeros_tail : (n : ℕ) → drop 1 (replicate n zero') ≡ replicate (n - 1) zero'
    zeros_tail zero = refl
    zeros_tail (suc n) =
        let same : suc n - 1 ≡ n = omega arith in
        rw same

    zeros_cons : (n : ℕ) → 0 < n → zero' ∷ replicate (n - 1) zero' ≡ replicate n zero'
    zeros_cons zero h = absurd (omega arith)
    zeros_cons (suc n) h =
        let same : suc n - 1 ≡ n = omega arith in
        rw same

    pub pushed_on : (height : ℕ) (cells : List X) (x : X) → height < length cells → Stack zero' height cells
        → Stack zero' (suc height) (set cells height x)
    pushed_on height cells x h stack =
        let less : length cells - height - 1 ≡ length cells - suc height = omega arith in
        record {
          within = rw length-set (omega arith);
          above =
              rw (length-set cells height x)
              (drop-set-lt (suc height) cells height x (omega arith)
              ∙ rw (sym (add-one height)) (sym (drop-drop 1 height cells))
              ∙ ap (drop 1) stack.above
              ∙ zeros_tail (length cells - height)
              ∙ ap (λ n. replicate n zero') less);
        }

    -- the place that is taken back is cleared
    pub taken_off : (height : ℕ) (cells : List X) → Stack zero' (suc height) cells → Stack zero' height (set cells height zero')
    taken_off height cells stack =
        let h : height < length cells = stack.within in
        let less : length cells - suc height ≡ length cells - height - 1 = omega arith in
        record {
          within = rw length-set (omega arith);
          above =
              rw (length-set cells height zero')
              (drop-cons (set cells height zero') height zero' (rw length-set h)
              ∙ ap (λ x. x ∷ drop (suc height) (set cells height zero')) (get_or-set_same cells height zero' zero' h)
              ∙ ap (λ l. zero' ∷ l) (drop-set-lt (suc height) cells height zero' (omega arith) ∙ stack.above ∙ ap (λ n. replicate n zero') less)
              ∙ zeros_cons (length cells - height) (omega arith));
        }
