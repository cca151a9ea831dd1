-- The checks of the entries from i on: those of entry i, then those from i + 1 on; none where one of the lists has ended. Assumes nothing.
use Prim.Native.Nat.{ℕ, suc, ◌+◌, ◌≤◌, ◌<◌, min}
use mathlib.Core.Path.{◌≡◌, refl, sym, ap, ◌∙◌, subst}
use mathlib.Core.List.{List, [], ◌∷◌}
use native.Mathlib.Decide.{dec_le}
use native.Mathlib.Numerals.{add-one}
use native.Mathlib.Omega.{arith}
use lib.ListN.{length, drop, drop_of_length-le}
use lib.Seq.{drop-cons}
use Rattle.std.specs.Prelude.{Ok, get_or}
use Rattle.std.proofs.Common.{zero-add}
use Rattle.std.proofs.lemmas.List.{get_or_default}
use Rattle.std.specs.List.{zip, enumerate_from}
use Rattle.std.proofs.lemmas.Slice.Zip.{length-zip, get_or-zip}
use Rattle.std.proofs.lemmas.List.FromFn.{length-enumerate_from, get_or-enumerate_from}
use Rattle.sums.specs.Table.{at}
use Rattle.answer.specs.First.{or, first}
use Rattle.answer.specs.Check.{Check}
use Rattle.answer.proofs.Firsts.{first-append}
use Rattle.checks.specs.Factors.{entry_order, entries_order}

pub one_entry : (before i : ℕ) (ps es : List ℕ) → i < length ps → i < length es
    → first (entries_order before i (drop i ps) (drop i es)) ≡ or (first (entry_order before i (at ps i) (at es i))) (first (entries_order (at ps i) (i + 1) (drop (i + 1) ps) (drop (i + 1) es)))
one_entry before i ps es hp he =
    rw (add-one i, drop-cons ps i 0, drop-cons es i 0) (first-append (entry_order before i (at ps i) (at es i)) (entries_order (at ps i) (suc i) (drop (suc i) ps) (drop (suc i) es)))

-- An entry that is right: those behind it decide.
pub right_entry : (before n : ℕ) (ps es : List ℕ) (x : ℕ × (ℕ × ℕ)) {found : Check} → found ≡ first (entry_order before x.0 x.1.0 x.1.1) → found ≡ Ok tt
    → n < length (enumerate_from 0 (zip ps es)) → x ≡ get_or (enumerate_from 0 (zip ps es)) n x
    → first (entries_order before n (drop n ps) (drop n es)) ≡ first (entries_order x.1.0 (n + 1) (drop (n + 1) ps) (drop (n + 1) es))
right_entry before n ps es x {found = found} here passed inside is =
    let short : n < length (zip ps es) = omega (arith, length-enumerate_from 0 (zip ps es)) in
    let hp : n < length ps = omega (arith, length-zip ps es) in
    let he : n < length es = omega (arith, length-zip ps es) in
    let pair : get_or (zip ps es) n x.1 ≡ (at ps n, at es n) = get_or-zip ps es n x.1 hp he ∙ cc (get_or_default ps n x.1.0 0 hp, get_or_default es n x.1.1 0 he) in
    let entry : x ≡ (n, (at ps n, at es n)) = is ∙ get_or-enumerate_from 0 (zip ps es) n x short ∙ cc (pair, zero-add n) in
    let right = subst (λ (y : ℕ × (ℕ × ℕ)). first (entry_order before y.0 y.1.0 y.1.1) ≡ Ok tt) entry (sym here ∙ passed) in
    let behind : ℕ → Check = λ p. first (entries_order p (n + 1) (drop (n + 1) ps) (drop (n + 1) es)) in
    one_entry before n ps es hp he ∙ ap (λ (found : Check). or found (behind (at ps n))) right ∙ ap behind (sym (ap (λ (y : ℕ × (ℕ × ℕ)). y.1.0) entry))

no_exponent : (before i : ℕ) (ps : List ℕ) → first (entries_order before i ps []) ≡ Ok tt
no_exponent before i [] = refl
no_exponent before i (p ∷ ps) = refl

pub no_entry : (before i n : ℕ) (ps es : List ℕ) → n ≡ min (length ps) (length es) → first (entries_order before i (drop n ps) (drop n es)) ≡ Ok tt
no_entry before i n ps es e = elim (dec_le (length ps) n) [
  | yes h ↦ rw (drop_of_length-le ps h) refl
  | no h ↦ let short : length es ≤ n = omega arith in rw (drop_of_length-le es short) (no_exponent before i (drop n ps))
]
