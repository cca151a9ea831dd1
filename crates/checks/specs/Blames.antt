-- What a refusal of a factor list says of the lists: "Say which part of the factor list is bad." (document 02, first request) That every refusal of `factors`
-- says so is `blames` in proofs/Blame.antt.
use Rattle.std.specs.Prelude.{ℕ, ◌≤◌, ◌<◌, ◌≡◌, ◌≢◌, ◌⊎◌, List, ◌∷◌, length}
use Rattle.sums.specs.Table.{at}
use Rattle.limits.specs.Limits.{most_factors}
use Rattle.modular.specs.Prime.{Prime}
use Rattle.modular.specs.FactorList.{FactorEntry, Rising, powers}
use Rattle.answer.specs.declared.Case.{Case}
use Rattle.answer.specs.declared.Case.TheVariants as case
use Rattle.answer.specs.declared.Refusal.{Refusal}

-- Lists of one length, of 1 to 7 entries.
pub record Sized (ps es : List ℕ) : Type 0 where
  pub same : length ps ≡ length es
  pub some : 0 < length ps
  pub few : length ps ≤ most_factors

-- 5: they are not.
pub record BadSizes (ps es : List ℕ) (r : Refusal) : Type 0 where
  pub case : r.case ≡ case.Factors
  pub unsized : ¬ Sized ps es

-- What is wrong with an entry that is refused with 10, 11 or 12: its exponent is zero; it is not, and p is not a prime; p is one, and not above the one before.
abbrev pub Fault : Case → (before p e : ℕ) → Type 0
Fault c before p e =
    ((c ≡ case.Exponent) × (e ≡ 0))
    ⊎ (((c ≡ case.Prime) × (1 ≤ e) × ¬ Prime p)
    ⊎ ((c ≡ case.Order) × (1 ≤ e) × Prime p × (p ≤ before)))

-- 10, 11 and 12: that is wrong with the entry at the place told, and the entries before it are right. (In 0 and the primes, the prime before entry i stands at i.)
pub record BadEntry (ps es : List ℕ) (r : Refusal) : Type 0 where
  pub sized : Sized ps es
  pub inside : r.place < length ps
  pub right : (i : ℕ) → i < r.place → FactorEntry (at (0 ∷ ps) i) (at ps i) (at es i)
  pub fault : Fault r.case (at (0 ∷ ps) r.place) (at ps r.place) (at es r.place)

-- 13: all entries are right, and the powers don't multiply to m.
pub record BadProduct (m : ℕ) (ps es : List ℕ) (r : Refusal) : Type 0 where
  pub case : r.case ≡ case.Product
  pub sized : Sized ps es
  pub rising : Rising 0 ps es
  pub product : powers ps es ≢ m

abbrev pub Blames : (m : ℕ) (ps es : List ℕ) → Refusal → Type 0
Blames m ps es r = BadSizes ps es r ⊎ (BadEntry ps es r ⊎ BadProduct m ps es r)
