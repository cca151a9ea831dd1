-- Parts of lists: a part's length, its bound, and that a part up to the end is all that is left. Assumes nothing.
use Prim.Native.Nat.{ℕ, ◌-◌, ◌+◌, ◌≤◌, min}
use mathlib.Core.Path.{◌≡◌, refl, sym, ap, ◌∙◌}
use mathlib.Core.List.{List, ◌++◌}
use native.Mathlib.Omega.{arith}
use native.Mathlib.Decide.{dec_lt, dec_le}
use lib.ListN.{length, take, drop, length-take, length-drop, drop_of_length-le}
use lib.Seq.{length-take-le, take_all, take_at, drop_at, get_or-take, get_or-drop}
use Rattle.sums.proofs.Tables.{at_past}
use Rattle.along.specs.Asks.{Low}

pub length_part : (f e : ℕ) (l : List ℕ) → e ≤ length l → length (take (e - f) (drop f l)) ≡ e - f
length_part f e l h = length-take-le (e - f) (drop f l) (simp length-drop (omega arith))

pub low_part : (f n : ℕ) (l : List ℕ) → Low l → Low (take n (drop f l))
low_part f n l p i =
    elim (dec_lt i n) [
      | yes h ↦ rw (get_or-take n (drop f l) i 0, get_or-drop f l i 0) (p (f + i))
      | no h ↦ rw (at_past (take n (drop f l)) i (simp length-take (omega arith))) (omega (arith, p 0))
    ]

pub rest : (f : ℕ) (l : List ℕ) → take (length l - f) (drop f l) ≡ drop f l
rest f l = take_all (length l - f) (drop f l) (simp length-drop (omega arith))

-- What comes off the front of a list, n entries or all that it has, and what is left of it.
module _ (n : ℕ) (xs b r : List ℕ) (e : xs ≡ b ++ r) (l : length b ≡ min n (length xs)) where
  pub front_is : b ≡ take n xs
  front_is =
      sym (take_at b r (length b) refl) ∙ ap (take (length b)) (sym e)
      ∙ elim (dec_le n (length xs)) [
        | yes h ↦ ap (λ (z : ℕ). take z xs) (omega arith)
        | no h ↦ take_all (length b) xs (omega arith) ∙ sym (take_all n xs (omega arith))
      ]

  pub rest_is : r ≡ drop n xs
  rest_is =
      sym (drop_at b r (length b) refl) ∙ ap (drop (length b)) (sym e)
      ∙ elim (dec_le n (length xs)) [
        | yes h ↦ ap (λ (z : ℕ). drop z xs) (omega arith)
        | no h ↦ drop_of_length-le xs {i = length b} (omega arith) ∙ sym (drop_of_length-le xs {i = n} (omega arith))
      ]
