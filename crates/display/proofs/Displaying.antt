-- What a legal sheet comes to, from what inverting and unmixing give: the inverse, with the counts where there are readings, or the ghost.
-- Each has its room in the text. Assumes nothing.
use Rattle.std.specs.Prelude.{Option as std-Option, Ok, Err}
use Prim.Native.Nat.{ℕ, ◌≤◌, ◌<◌}
use mathlib.Core.Path.{◌≡◌, sym, subst, ◌∙◌}
use mathlib.Core.List.{List, []}
use mathlib.Core.Option.{Option, none, some}
use native.Mathlib.Omega.{arith}
use native.Mathlib.Nat.{le_of_dvd}
use lib.ListN.{length}
use denote.Bor.{Bor}
use Rattle.ring.specs.Ring.{Ring}
use Rattle.answer.specs.First.{first}
use Rattle.answer.specs.Check.{Check}
use Rattle.answer.specs.declared.Refusal.{Refusal}
use Rattle.pattern.specs.Granted.{Granted}
use Rattle.pattern.proofs.Granted.{granted}
use Rattle.pattern.proofs.Ghosts.{ghost_ring}
use Rattle.invert.specs.declared.Ghost.{Ghost}
use Rattle.lines.specs.Puts.{Puts, Room}
use Rattle.sheet.specs.Held.{Held, lent}
use Rattle.page.specs.Outcome.{refused, singular, inverted, CountsBehind, listed, ring_2, held_order}
use Rattle.page.specs.Page.{refusal_line, page}
use Rattle.page.specs.Report.{text_room}
use Rattle.page.proofs.Rooms.{inverse_room, ghost_room, counts_room}
use Rattle.display.specs.Decoded.{ShowsHeld}
use Rattle.display.specs.Inner.{LegalSheet, CanSolve, SolvingMeans, Solving}

-- A refusal is shown.
pub displays_refusal : (h : Held) {r : Refusal} {found : Check} {old new : List ℕ} {end : ℕ} → found ≡ first (held_order h) → found ≡ Err r → Puts (refusal_line r) 0 old new end → ShowsHeld h old new end
displays_refusal h {r} e d p = record { outcome = refused r; fits = sym e ∙ d; puts = p }

-- A legal sheet, with room for the text.
pub legal_text : (h : Held) {found : Check} {text : List ℕ} → found ≡ first (held_order h) → found ≡ Ok tt → text_room ≤ length text → LegalSheet h text
legal_text h e d room = let passes = sym e ∙ d in record { passes = passes; few = (granted h.pattern (ring_2 h.readings) (listed h) [] passes).0.legal.few; room = room }

counts_ring : (m : ℕ) (f : List ℕ) (readings : Option (List ℕ)) {c : List ℕ} → CountsBehind m f readings (some c) → Ring (length f) m c
counts_ring m f none b = absurd b
counts_ring m f (some y) b = b.counts.ring

module _ {h : Held} {text : List ℕ} (legal : LegalSheet h text) where
  abbrev n : ℕ
  n = length h.pattern

  all : Granted h.pattern (ring_2 h.readings) (listed h)
  all = (granted h.pattern (ring_2 h.readings) (listed h) [] legal.passes).0

  positive : 0 < h.modulus
  positive = omega (arith, all.legal.low)

  pub can_solve : {inverse counts : List ℕ} → length inverse ≡ n → length counts ≡ n → CanSolve h inverse counts
  can_solve long long' = record { granted = all; long = long; counts_long = long' }

  module _ {g : List ℕ} {found : _} (s : Solving h g found) where
    module _ {counts : std-Option (Bor (List ℕ))} (e : found ≡ Ok counts) where
      told : SolvingMeans h g (Ok counts)
      told = subst (SolvingMeans h g) e s.means

      fits : (c : Option (List ℕ)) → CountsBehind h.modulus h.pattern h.readings c → Room (page n h.modulus (inverted g c)) 0 text
      fits none b = inverse_room all.legal.few all.legal.high legal.room told.0.ring
      fits (some c) b = counts_room all.legal.few all.legal.high legal.room told.0.ring (counts_ring h.modulus h.pattern h.readings b)

      pub inverse_fits : Room (page n h.modulus (inverted g (lent counts))) 0 text
      inverse_fits = fits (lent counts) told.1

    module _ {why : Ghost} (e : found ≡ Err why) where
      dark : SolvingMeans h g (Err why)
      dark = subst (SolvingMeans h g) e s.means

      pub ghost_fits : Room (page n h.modulus (singular why.prime g)) 0 text
      ghost_fits =
          ghost_room all.legal.few all.legal.high legal.room (le_of_dvd positive dark.0.divides)
          (ghost_ring n h.modulus h.pattern dark.0.prime.two positive dark.0.divides dark.1)
