-- Bytes put into a buffer one after another stand as all of them together: what is put later stands behind what was put before, and the buffer keeps its
-- length. Assumes nothing.
use Prim.Native.Nat.{ℕ, suc, ◌+◌, ◌≤◌, ◌<◌}
use mathlib.Core.Path.{◌≡◌, sym, ap, ◌∙◌}
use mathlib.Core.List.{List, [], ◌∷◌, ◌++◌, append_assoc}
use native.Mathlib.Omega.{arith}
use native.Mathlib.Nat.{add_assoc}
use native.Mathlib.Numerals.{add-one}
use lib.ListN.{length, take, drop, set, length-append, length-drop}
use lib.Seq.{length-take-le, append_snoc, set_split, take_at, drop-drop, drop-append-add, paste, paste-zero, paste-suc, take-length}
use Rattle.sums.specs.Table.{at}
use Rattle.lines.specs.Put.{put, PutsBytes}

module _ (t : List ℕ) (o : ℕ) (old : List ℕ) (inside : o + length t ≤ length old) where
  front : length (take o old ++ t) ≡ o + length t
  front = length-append (take o old) t ∙ omega (arith, length-take-le o old (omega arith))

  put-length : length (put t o old) ≡ length old
  put-length = length-append (take o old ++ t) (drop (o + length t) old) ∙ omega (arith, front, length-drop (o + length t) old)

  put-put : (u : List ℕ) → put u (o + length t) (put t o old) ≡ put (t ++ u) o old
  put-put u = rw (before, behind, append_assoc (take o old) t u, rest)
    where
      before : take (o + length t) (put t o old) ≡ take o old ++ t
      before = take_at (take o old ++ t) (drop (o + length t) old) (o + length t) front

      behind : drop (o + length t + length u) (put t o old) ≡ drop (length u) (drop (o + length t) old)
      behind = ap (λ (k : ℕ). drop (k + length u) (put t o old)) (sym front) ∙ drop-append-add (take o old ++ t) (drop (o + length t) old) (length u)

      rest : drop (length u) (drop (o + length t) old) ≡ drop (o + length (t ++ u)) old
      rest = drop-drop (length u) (o + length t) old ∙ ap (λ (k : ℕ). drop k old) (add_assoc o (length t) (length u) ∙ ap (λ (k : ℕ). o + k) (sym (length-append t u)))

-- ---- one after another

pub bytes-length : {t : List ℕ} {o end : ℕ} {old new : List ℕ} → PutsBytes t o old new end → length new ≡ length old
bytes-length {t} {o} {old = old} p = ap length p.stands ∙ put-length t o old (omega (arith, p.ends, p.inside))

pub bytes-append : {t u : List ℕ} {o mid end : ℕ} {old between new : List ℕ} → PutsBytes t o old between mid → PutsBytes u mid between new end → PutsBytes (t ++ u) o old new end
bytes-append {t} {u} {o} {old = old} {between = between} p q = record {
  inside = omega (arith, q.inside, bytes-length p);
  ends = omega (arith, p.ends, q.ends, length-append t u);
  stands = q.stands ∙ ap (λ (k : ℕ). put u k between) p.ends ∙ ap (put u (o + length t)) p.stands ∙ put-put t o old (omega (arith, p.ends, p.inside)) u;
}

-- What stands is the only thing that may, and ends where it must.
pub one-bytes : {t : List ℕ} {o end end' : ℕ} {old new new' : List ℕ} → PutsBytes t o old new end → PutsBytes t o old new' end' → (end ≡ end') × (new ≡ new')
one-bytes p q = (p.ends ∙ sym q.ends, p.stands ∙ sym q.stands)

-- ---- none, one, and those of a slice

pub puts_none : {o : ℕ} {old : List ℕ} → o ≤ length old → PutsBytes [] o old old o
puts_none {o} {old} h = record { inside = h; ends = omega arith; stands = paste-zero old o [] }

set-put : (l : List ℕ) (o b : ℕ) → o < length l → set l o b ≡ put (b ∷ []) o l
set-put l o b h = set_split l o b h ∙ sym (append_snoc (take o l) b (drop (suc o) l)) ∙ ap (λ (k : ℕ). take o l ++ (b ∷ []) ++ drop k l) (sym (add-one o))

pub puts_one : {b o : ℕ} {old : List ℕ} → o < length old → PutsBytes (b ∷ []) o old (set old o b) (o + 1)
puts_one {b} {o} {old} h = record { inside = omega arith; ends = omega arith; stands = set-put old o b h }

pub paste_next : (old : List ℕ) (o : ℕ) (w : List ℕ) (i : ℕ) → o + i < length old → i < length w → set (paste old o w i) (o + i) (at w i) ≡ paste old o w (i + 1)
paste_next old o w i h k = rw (add-one i) (paste-suc old o w i 0 h k)

pub puts_all : {w : List ℕ} {o i : ℕ} {old new : List ℕ} → o + length w ≤ length old → i ≡ length w → new ≡ paste old o w i → PutsBytes w o old new (o + i)
puts_all {w} h all e = record { inside = omega arith; ends = omega arith; stands = e ∙ rw (all, take-length w) }
