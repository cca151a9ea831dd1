-- One text for each sheet: whatever fits comes to the same outcome, which has one page, which is spelled in one way. There is one refusal, one inverse, one
-- ring of counts, one smallest singular prime and one ghost, and never both an inverse and a singular prime. Assumes nothing.
use Rattle.std.specs.Prelude.{Result, Ok, Err}
use Prim.Native.Nat.{ℕ}
use mathlib.Core.Path.{◌≡◌, refl, sym, ap, subst, ◌∙◌}
use mathlib.Core.List.{List, []}
use mathlib.Core.Option.{Option, none, some}
use native.Mathlib.Omega.{arith}
use native.Mathlib.Decide.{dec_le}
use lib.ListN.{length}
use Rattle.ring.specs.Inverse.{Inverse}
use Rattle.ring.proofs.Inverses.{inverse_unique}
use Rattle.answer.specs.First.{first}
use Rattle.answer.specs.Check.{Check}
use Rattle.answer.specs.declared.Refusal.{Refusal}
use Rattle.answer.proofs.Firsts.{passed_refused}
use Rattle.pattern.specs.Sent.{sent}
use Rattle.pattern.specs.Smallest.{Smallest}
use Rattle.pattern.specs.Ghost.{Ghost}
use Rattle.pattern.specs.Granted.{Granted}
use Rattle.pattern.proofs.Granted.{granted}
use Rattle.pattern.proofs.Patterns.{one_smallest, smallest_none}
use Rattle.pattern.proofs.Ghosts.{one_ghost}
use Rattle.pattern.proofs.Unmixing.{one_unmixed}
use Rattle.lines.specs.Puts.{Puts}
use Rattle.lines.proofs.Putting.{one-put}
use Rattle.sheet.specs.Held.{Held, held_of}
use Rattle.page.specs.Outcome.{Outcome, refused, singular, inverted, listed, ring_2, held_order, CountsBehind, Shown, AfterReading}
use Rattle.page.specs.Page.{page_of}
use Rattle.page.specs.Report.{text_room, Displays, Reports}

-- ---- one outcome

same_refusal : {c : Check} {r r' : Refusal} → c ≡ Err r → c ≡ Err r' → r ≡ r'
same_refusal e d = cc

same_counts : (m : ℕ) (f : List ℕ) (y c c' : Option (List ℕ)) → CountsBehind m f y c → CountsBehind m f y c' → c ≡ c'
same_counts m f none none none a b = refl
same_counts m f none none (some c) a b = absurd b
same_counts m f none (some c) c' a b = absurd a
same_counts m f (some y) none c' a b = absurd a
same_counts m f (some y) (some c) none a b = absurd b
same_counts m f (some y) (some c) (some c') a b = ap some (one_unmixed m (sent f y) a b)

module _ (h : Held) where
  all : first (held_order h) ≡ Ok tt → Granted h.pattern (ring_2 h.readings) (listed h)
  all e = (granted h.pattern (ring_2 h.readings) (listed h) [] e).0

  never_both : {prime : ℕ} {g : List ℕ} → first (held_order h) ≡ Ok tt → Smallest (length h.pattern) h.modulus h.pattern prime → Inverse (length h.pattern) h.modulus h.pattern g → ⊥
  never_both {g = g} e s i = smallest_none (length h.pattern) (all e).legal.some h.pattern refl s (record { inverse = g; is = i })

  one_outcome : (x y : Outcome) → Shown h x → Shown h y → x ≡ y
  one_outcome (refused r) (refused r') a b = ap refused (same_refusal a b)
  one_outcome (refused r) (singular p w) a b = absurd (passed_refused b.0 a)
  one_outcome (refused r) (inverted g c) a b = absurd (passed_refused b.0 a)
  one_outcome (singular p w) (refused r) a b = absurd (passed_refused a.0 b)
  one_outcome (singular p w) (singular p' w') (e, s, g) (_, s', g') =
      let q = one_smallest s s' in
      let n = length h.pattern in
      rw (q, one_ghost n h.modulus h.pattern (all e).legal.some refl s'.prime.two (subst (λ (z : ℕ). Ghost n h.modulus h.pattern z w) q g) g')
  one_outcome (singular p w) (inverted g c) (e, s, _) (_, i, _) = absurd (never_both e s i)
  one_outcome (inverted g c) (refused r) a b = absurd (passed_refused a.0 b)
  one_outcome (inverted g c) (singular p w) (_, i, _) (e, s, _) = absurd (never_both e s i)
  one_outcome (inverted g c) (inverted g' c') (_, i, k) (_, i', k') =
      let n = length h.pattern in
      rw (inverse_unique n h.modulus h.pattern i i', same_counts h.modulus h.pattern h.readings c c' k k')

one_comes : (found : Result Held Refusal) {x y : Outcome} → AfterReading found x → AfterReading found y → x ≡ y
one_comes (Err r) a b = a ∙ sym b
one_comes (Ok h) {x} {y} a b = one_outcome h x y a b

-- ---- one text

one_display : (found : Result Held Refusal) {old new new' : List ℕ} {end end' : ℕ} → Displays found old new end → Displays found old new' end' → (end ≡ end') × (new ≡ new')
one_display found {old} {new} {end = end} a b =
    one-put (subst (λ (x : Outcome). Puts (page_of found x) 0 old new end) (one_comes found a.fits b.fits) a.puts) b.puts

pub one_report : (s old : List ℕ) {new new' : List ℕ} {end end' : ℕ} → Reports s old new end → Reports s old new' end' → (end ≡ end') × (new ≡ new')
one_report s old a b = elim (dec_le text_room (length old)) [
  | yes h ↦ one_display (held_of s) (a.prints h) (b.prints h)
  | no h ↦ let x = a.leaves (omega arith) in let y = b.leaves (omega arith) in (x.0 ∙ sym y.0, x.1 ∙ sym y.1)
]
