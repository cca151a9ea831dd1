-- What a call with a factor list that no check refuses has been given, and that a call that has been given it is not refused.
-- `legal` and `order_passes` of crate checks, with the factor list. Assumes nothing.
use Rattle.std.specs.Prelude.{Ok}
use Prim.Native.Nat.{ℕ}
use mathlib.Core.Path.{◌≡◌}
use mathlib.Core.List.{List, [], ◌∷◌}
use borrow.Author.Tests.{eq-eqb}
use lib.ListN.{length}
use Rattle.answer.specs.First.{first}
use Rattle.answer.specs.Check.{Check}
use Rattle.answer.proofs.Firsts.{both}
use Rattle.checks.specs.Checks.{room}
use Rattle.checks.proofs.Orders.{legal, order_passes, room_passes}
use Rattle.checks.proofs.FactorCheck.{factors_exactly}
use Rattle.factors.specs.Factored.{Factored, listed_order}
use Rattle.pattern.specs.Sent.{Sent, entries}
use Rattle.pattern.specs.Granted.{Granted, BothGranted}
use Rattle.pattern.specs.Promises.{invert_order, unmix_order, same_order}

module _ (f : List ℕ) (others : List (List ℕ)) (M : Factored) (rest : List Check) where
  pub granted : first (listed_order f others M rest) ≡ Ok tt → Granted f others M × (first rest ≡ Ok tt)
  granted e =
      let t = legal f others M.modulus _ rest e in
      (record { legal = t.0; factors = (factors_exactly M.modulus M.primes M.exponents t.0.low t.0.high).0 t.1 }, t.2)

  pub grants : Granted f others M → first rest ≡ Ok tt → first (listed_order f others M rest) ≡ Ok tt
  grants g e = order_passes f others M.modulus _ rest g.legal ((factors_exactly M.modulus M.primes M.exponents g.legal.low g.legal.high).1 g.factors) e

-- Fewer rings.
pub alone : {f : List ℕ} {others : List (List ℕ)} {M : Factored} → Granted f others M → Granted f [] M
alone g =
    let l = g.legal in
    record { legal = record { some = l.some; few = l.few; low = l.low; high = l.high; ring = l.ring; rings = tt }; factors = g.factors }

-- ---- the calls

room_of : (n len : ℕ) → first (room n len ∷ []) ≡ Ok tt → len ≡ n
room_of n len e = room_passes n len (both (room n len) (Ok tt) e).0

room_fits : (n len : ℕ) → len ≡ n → first (room n len ∷ []) ≡ Ok tt
room_fits n len e = rw (eq-eqb len n e)

pub invert_granted : (f : List ℕ) (M : Factored) (len : ℕ) → first (invert_order f M len) ≡ Ok tt → Granted f [] M × (len ≡ length f)
invert_granted f M len e = let t = granted f [] M _ e in (t.0, room_of (length f) len t.1)

pub invert_passes : (f : List ℕ) (M : Factored) (len : ℕ) → Granted f [] M → len ≡ length f → first (invert_order f M len) ≡ Ok tt
invert_passes f M len g e = grants f [] M _ g (room_fits (length f) len e)

pub unmix_granted : (s : Sent) (M : Factored) (len : ℕ) → first (unmix_order s M len) ≡ Ok tt → Granted s.pattern (s.readings ∷ []) M × (len ≡ entries s)
unmix_granted s M len e = let t = granted s.pattern (s.readings ∷ []) M _ e in (t.0, room_of (entries s) len t.1)

pub same_granted : (s₁ s₂ : Sent) (M : Factored) → first (same_order s₁ s₂ M) ≡ Ok tt → BothGranted s₁ s₂ M
same_granted s₁ s₂ M e =
    let g = (granted s₁.pattern (s₁.readings ∷ s₂.pattern ∷ s₂.readings ∷ []) M [] e).0 in
    let l = g.legal in
    let n = l.rings.1.0.long in
    record {
      one_size = n;
      first_side = record { legal = record { some = l.some; few = l.few; low = l.low; high = l.high; ring = l.ring; rings = (l.rings.0, tt) }; factors = g.factors };
      second_side = record {
        legal = record {
          some = rw n l.some;
          few = rw n l.few;
          low = l.low;
          high = l.high;
          ring = rw n l.rings.1.0;
          rings = (rw n l.rings.1.1.0, tt);
        };
        factors = g.factors;
      };
    }
