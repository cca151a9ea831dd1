-- A ring is printed entry by entry: the first i entries stand, then entry i after a blank. Assumes nothing.
use Prim.Native.Nat.{ℕ, suc, ◌+◌, ◌*◌, ◌^◌, ◌≤◌, ◌<◌}
use mathlib.Core.Path.{◌≡◌, refl, sym, ap, ◌∙◌, subst}
use mathlib.Core.List.{List, [], ◌∷◌, ◌++◌, map-append}
use native.Mathlib.Omega.{arith}
use native.Mathlib.Numerals.{add-one}
use lib.ListN.{length, take, drop}
use lib.Seq.{take-suc, take_all, split_at}
use Rattle.sums.specs.Table.{at}
use Rattle.lines.specs.Items.{Item, number, numbers, text}
use Rattle.lines.specs.Lines.{after}
use Rattle.lines.specs.Puts.{Puts, Room, Low, most}
use Rattle.lines.specs.declared.Text.{Text}
use Rattle.lines.specs.Writes.{Writes}
use Rattle.lines.proofs.Putting.{puts_append, room-first, room_next}
use Rattle.lines.proofs.Writing.{writes_append}

after-append : (items more : List Item) → after (items ++ more) ≡ after items ++ after more
after-append [] more = refl
after-append (item ∷ items) more = ap (λ (l : List Item). text " " ∷ item ∷ l) (after-append items more)

after-numbers : (a b : List ℕ) → after (numbers (a ++ b)) ≡ after (numbers a) ++ after (numbers b)
after-numbers a b = ap after (map-append number a b) ∙ after-append (numbers a) (numbers b)

module _ (ring : List ℕ) (i : ℕ) (inside : i < length ring) {x : ℕ} (entry : x ≡ at ring i) where
  -- The first i entries, entry i, and the others.
  parts : after (numbers ring) ≡ after (numbers (take i ring)) ++ (after (number x ∷ []) ++ after (numbers (drop (suc i) ring)))
  parts = ap (λ (l : List ℕ). after (numbers l)) (split_at ring i 0 inside) ∙ after-numbers (take i ring) (at ring i ∷ drop (suc i) ring) ∙ ap (λ (e : ℕ). after (numbers (take i ring)) ++ (after (number e ∷ []) ++ after (numbers (drop (suc i) ring)))) (sym entry)

  one_more : after (numbers (take i ring)) ++ after (number x ∷ []) ≡ after (numbers (take (i + 1) ring))
  one_more = rw entry (sym (ap (λ (k : ℕ). after (numbers (take k ring))) (add-one i) ∙ ap (λ (l : List ℕ). after (numbers l)) (take-suc ring i 0 inside) ∙ after-numbers (take i ring) (at ring i ∷ [])))

  pub room_entry : {o mid : ℕ} {old between : List ℕ} → Room (after (numbers ring)) o old → Puts (after (numbers (take i ring))) o old between mid → Room (after (number x ∷ [])) mid between
  room_entry {o} {old = old} r p =
      room-first (after (number x ∷ [])) (after (numbers (drop (suc i) ring)))
      (room_next (after (numbers (take i ring))) (after (number x ∷ []) ++ after (numbers (drop (suc i) ring))) (subst (λ (l : List Item). Room l o old) parts r) p)

  pub puts_entry : {o mid end : ℕ} {old between new : List ℕ} → Puts (after (numbers (take i ring))) o old between mid → Puts (after (number x ∷ [])) mid between new end → Puts (after (numbers (take (i + 1) ring))) o old new end
  puts_entry {o} {end = end} {old} {new = new} p q = subst (λ (l : List Item). Puts l o old new end) one_more (puts_append p q)

  pub writes_entry : {s t u : Text} → Writes (after (numbers (take i ring))) s t → Writes (after (number x ∷ [])) t u → Writes (after (numbers (take (i + 1) ring))) s u
  writes_entry {s} {u = u} w v = subst (λ (l : List Item). Writes l s u) one_more (writes_append w v)

pub puts_ring : (ring : List ℕ) {o end i : ℕ} {old new : List ℕ} → length ring ≤ i → Puts (after (numbers (take i ring))) o old new end → Puts (after (numbers ring)) o old new end
puts_ring ring {o} {end} {i} {old} {new} all p = subst (λ (l : List ℕ). Puts (after (numbers l)) o old new end) (take_all i ring all) p

-- ---- how many bytes

pub low_ring : (places : ℕ) (ring : List ℕ) → ((i : ℕ) → i < length ring → at ring i < 10 ^ places) → Low places (after (numbers ring))
low_ring places [] h = tt
low_ring places (x ∷ ring) h = (h 0 (omega arith), low_ring places ring (λ i k. h (suc i) (omega arith)))

pub most_ring : (places : ℕ) (ring : List ℕ) → most places (after (numbers ring)) ≡ length ring * (1 + places)
most_ring places [] = omega arith
most_ring places (x ∷ ring) = omega (arith, most_ring places ring)
