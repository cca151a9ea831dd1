-- The program never prints 2, 3, 7, 8 or 9: whatever the sheet, a refusal that is shown has another number. The reader refuses with 20 to 24 alone. Of an
-- accepted sheet the checks 1 to 6 and 10 to 13 are made; a pattern part has at most 4,096 bytes, so that 2 finds nothing, and the readings have the pattern's
-- length, so that 3 finds nothing. Shown check by check: what each of them can refuse with. Assumes nothing.
use Rattle.std.specs.Prelude.{Option as std-Option, Some, None, IfSome, option_map, Result, Ok, Err}
use Prim.Native.Nat.{ℕ, zero, suc, ◌+◌, ◌-◌, ◌/◌, ◌≤◌}
use mathlib.Core.Path.{◌≡◌, refl, sym, ap, subst, ◌∙◌}
use mathlib.Core.Logic.{◌≢◌}
use mathlib.Core.Bool.{Bool, true, false, not, cond, ◌&&◌, ◌||◌}
use mathlib.Core.List.{List, [], ◌∷◌, ◌++◌}
use mathlib.Core.Option.{Option, none, some}
use native.Mathlib.Omega.{arith}
use borrow.Author.Tests.{eq-eqb, eqb-false, le-ltb}
use lib.Dec.{eqb, ltb, leb}
use lib.ListN.{length}
use Rattle.sums.specs.Table.{at}
use Rattle.sums.proofs.Tables.{length-table}
use Rattle.limits.specs.Limits.{most_entries, most_factors, least_modulus, most_modulus, header_bytes, entry_bytes}
use Rattle.modular.specs.FactorList.{powers}
use Rattle.modular.specs.PrimeTest.{prime?}
use Rattle.answer.specs.First.{or, first}
use Rattle.answer.specs.Numbers.{refusal_row}
use Rattle.answer.specs.Refuse.{refuse_if}
use Rattle.answer.specs.declared.Case.{Case}
use Rattle.answer.specs.declared.Case.TheVariants.{Empty, Modulus, Factors, Coefficient, Exponent, Prime, Order, Product, Cut, Tag, Length, Missing, Version}
use Rattle.answer.specs.Check.{Check}
use Rattle.answer.specs.declared.Refusal.{Refusal}
use Rattle.answer.proofs.Firsts.{passed_refused, neither}
use Rattle.checks.specs.Checks.{empty, large, mismatch, modulus, first_high, coefficient}
use Rattle.checks.specs.Factors.{list_sizes, entries_order, factors_order, factors}
use Rattle.checks.specs.Order.{order}
use Rattle.factors.specs.Factored.{Factored, listed_order}
use Rattle.fields.specs.Fields.{Field, tag_at, length_at, field_at, next_at, last_tag, version_of, bytes_of}
use Rattle.fields.specs.Tags.{tags, known_version, fit, lacks}
use Rattle.fields.specs.Checks.{is_unknown, is_wrong, above_tags, value_order, field_order, end_check}
use Rattle.fields.specs.Walk.{Reading, accepted, refused as refused-reading, unless, walk, reading}
use Rattle.sheet.specs.Sheets.{told, sheet_of}
use Rattle.sheet.specs.Entries.{number_of, entries_of}
use Rattle.sheet.specs.Held.{Held, held, held_by, given}
use Rattle.sheet.proofs.Parts.{Lies, sheet_inside, sheet_sized}
use Rattle.fields.specs.declared.Part.{Part}
use Rattle.sheet.specs.declared.Sheet.{Sheet}
use Rattle.page.specs.Outcome.{Outcome, refused, singular, inverted, listed, ring_2, held_order, Shown, AfterReading, Comes}
use Rattle.page.proofs.Parts.{part_long}

-- ---- the cases that are printed

abbrev hidden? : ℕ → Bool
hidden? k = eqb k 2 || (eqb k 3 || (eqb k 7 || (eqb k 8 || eqb k 9)))

abbrev Printed : Case → Type 0
Printed c = hidden? (refusal_row c).number ≡ false

numbers : (k : ℕ) → hidden? k ≡ false → (k ≢ 2) × (k ≢ 3) × (k ≢ 7) × (k ≢ 8) × (k ≢ 9)
numbers k e =
    let x₂ = neither (eqb k 2) _ e in
    let x₃ = neither (eqb k 3) _ x₂.1 in
    let x₇ = neither (eqb k 7) _ x₃.1 in
    let x₈ = neither (eqb k 8) (eqb k 9) x₇.1 in
    (eqb-false k 2 x₂.0, eqb-false k 3 x₃.0, eqb-false k 7 x₇.0, eqb-false k 8 x₈.0, eqb-false k 9 x₈.1)

abbrev Named : Check → Type 0
Named (Ok _) = Unit {0}
Named (Err r) = Printed r.case

-- What a check, each of several, the reader and an outcome can refuse with.
record Only (c : Check) : Type 0 where
  cases : (r : Refusal) → c ≡ Err r → Printed r.case

abbrev Each : List Check → Type 0
Each [] = Unit {0}
Each (c ∷ l) = Only c × Each l

abbrev OnlyRead : Reading → Type 0
OnlyRead (accepted come) = Unit {0}
OnlyRead (refused-reading r) = Printed r.case

abbrev OnlyShown : Outcome → Type 0
OnlyShown (refused r) = Printed r.case
OnlyShown (singular prime ghost) = Unit {0}
OnlyShown (inverted inverse counts) = Unit {0}

only_passed : {c : Check} → c ≡ Ok tt → Only c
only_passed e = record { cases = λ r d. absurd (passed_refused e d) }

only_refused : {r : Refusal} → Printed r.case → Only (Err r)
only_refused p = record { cases = λ r e. subst Named e p }

only_if : (b : Bool) (c : Case) (ring place : ℕ) → Printed c → Only (refuse_if b c ring place)
only_if true c ring place p = only_refused p
only_if false c ring place p = only_passed refl

only_or : (c d : Check) → Only c → Only d → Only (or c d)
only_or (Ok _) d a b = b
only_or (Err r) d a b = a

only_first : (l : List Check) → Each l → Only (first l)
only_first [] a = only_passed refl
only_first (c ∷ l) a = only_or c (first l) a.0 (only_first l a.1)

-- ---- the reader

only_unless : (c : Check) (x : Reading) → Only c → OnlyRead x → OnlyRead (unless c x)
only_unless (Ok _) x a b = b
only_unless (Err r) x a b = a.cases r refl

only_cond : (b : Bool) (x y : Reading) → OnlyRead x → OnlyRead y → OnlyRead (cond b x y)
only_cond true x y a b = a
only_cond false x y a b = b

module _ (s : List ℕ) where
  only_field : (come : List Field) (o : ℕ) → Only (first (field_order s come o))
  unfolding field_order value_order
  only_field come o =
      let tag = tag_at s o in
      let len = length_at s o in
      let rows = tags (version_of s come) in
      only_first (field_order s come o) (
        only_if (ltb (length s - o) header_bytes) Cut 0 o refl,
        (
          only_if (is_unknown (fit rows come tag len) || leb tag (last_tag come)) Tag 0 o refl,
          (
            only_if (lacks rows come tag) Missing 0 o refl,
            (
              only_if (is_wrong (fit rows come tag len)) Length 0 o refl,
              (
                only_if (ltb (length s - (o + header_bytes)) len) Cut 0 o refl,
                (only_if (eqb tag 1 && not (known_version (at s (o + header_bytes)))) Version 0 o refl, tt),
              ),
            ),
          ),
        ),
      )

  only_end : (come : List Field) → OnlyRead (unless (end_check s come) (accepted come))
  only_end come = only_unless (end_check s come) (accepted come) (only_if (lacks (tags (version_of s come)) come above_tags) Missing 0 (length s) refl) tt

  only_walk : (most : ℕ) (come : List Field) (o : ℕ) → OnlyRead (walk most s come o)
  unfolding walk
  only_walk zero come o = only_end come
  only_walk (suc most) come o = only_cond (leb (length s) o) _ _ (only_end come) (only_unless (first (field_order s come o)) _ (only_field come o) (only_walk most (field_at s o ∷ come) (next_at s o)))

  only_reading : OnlyRead (reading s)
  unfolding reading
  only_reading = only_walk (length s) [] 0

  only_told : (x : Reading) → OnlyRead x → {r : Refusal} → told s x ≡ Err r → Printed r.case
  only_told (accepted come) a e = cc
  only_told (refused-reading q) a {r} e = let same : q ≡ r = cc in subst (λ (k : Refusal). Printed k.case) same a

  only_sheet : {r : Refusal} → sheet_of s ≡ Err r → Printed r.case
  only_sheet e = only_told (reading s) only_reading e

-- ---- an accepted sheet

abbrev Long : ℕ → Option (List ℕ) → Type 0
Long n none = Unit {0}
Long n (some y) = length y ≡ n

only_empty : (f : List ℕ) → Only (empty (length f))
only_empty f = only_if (eqb (length f) 0) Empty 0 0 refl

large_passes : (f : List ℕ) → length f ≤ most_entries → Only (large most_entries (length f))
large_passes f few = only_passed {c = large most_entries (length f)} (rw (le-ltb most_entries (length f) few))

only_modulus : (M : Factored) → Only (modulus least_modulus most_modulus M.modulus)
only_modulus M = only_if (ltb M.modulus least_modulus || ltb most_modulus M.modulus) Modulus 0 0 refl

each_append : (k l : List Check) → Each k → Each l → Each (k ++ l)
each_append [] l a b = b
each_append (c ∷ k) l a b = (a.0, each_append k l a.1 b)

each_entry : (before i : ℕ) (ps es : List ℕ) → Each (entries_order before i ps es)
each_entry before i [] es = tt
each_entry before i (p ∷ ps) [] = tt
each_entry before i (p ∷ ps) (e ∷ es) =
    (only_if (eqb e 0) Exponent 0 i refl, (only_if (not (prime? p)) Prime 0 i refl, (only_if (leb p before) Order 0 i refl, each_entry p (suc i) ps es)))

only_sizes : (k l : ℕ) → Only (list_sizes most_factors k l)
only_sizes k l = only_if ((not (eqb k l) || eqb k 0) || ltb most_factors k) Factors 0 0 refl

only_factors : (M : Factored) → Only (factors M.modulus M.primes M.exponents)
unfolding factors
only_factors M =
    let ps = M.primes in
    let es = M.exponents in
    let product = only_if (not (eqb (powers ps es) M.modulus)) Product 0 0 refl in
    only_first (factors_order M.modulus ps es) (only_sizes (length ps) (length es), each_append (entries_order 0 0 ps es) _ (each_entry 0 0 ps es) (product, tt))

only_entries : (M : Factored) (ring : ℕ) (a : List ℕ) → Only (coefficient M.modulus ring a)
only_entries M ring a = only_if (ltb (first_high M.modulus a) (length a)) Coefficient ring (first_high M.modulus a) refl

only_order : (f : List ℕ) (readings : Option (List ℕ)) (M : Factored) → length f ≤ most_entries → Long (length f) readings → Only (first (listed_order f (ring_2 readings) M []))
unfolding order
only_order f none M few long = only_first (listed_order f [] M []) (only_empty f, (large_passes f few, (only_modulus M, (only_factors M, (only_entries M 1 f, tt)))))
only_order f (some y) M few long =
    only_first (listed_order f (y ∷ []) M [])
    (only_empty f, (large_passes f few, (only_passed {c = mismatch (length f) 2 (length y)} (rw (eq-eqb (length y) (length f) long)), (only_modulus M, (only_factors M, (only_entries M 1 f, (only_entries M 2 y, tt)))))))

-- The rings that a sheet holds.
entries_long : (part : List ℕ) → length (entries_of part) ≡ length part / entry_bytes
entries_long part = length-table (length part / entry_bytes) (number_of entry_bytes part)

given_long : (n : ℕ) (part : std-Option Part) (entries : Part → List ℕ) → IfSome part (λ part. length (entries part) ≡ n) → Long n (given (option_map entries part))
given_long n None entries h = tt
given_long n (Some part) entries h = h

-- Readings that have come have as many entries as the pattern.
readings_long : (s : List ℕ) (n : ℕ) (part : std-Option Part) → IfSome part (Lies s) → IfSome part (λ part. part.len ≡ n) → IfSome part (λ part. length (entries_of (bytes_of s part)) ≡ n / entry_bytes)
readings_long s n None lies same = tt
readings_long s n (Some part) lies same = entries_long (bytes_of s part) ∙ ap (λ (n : ℕ). n / entry_bytes) (part_long s part lies ∙ same)

only_held : (s : List ℕ) {sheet : Sheet} → sheet_of s ≡ Ok sheet → Only (first (held_order (held s sheet)))
only_held s {sheet} e =
    let inside = sheet_inside s e in
    let sized = sheet_sized s e in
    let f = bytes_of s sheet.pattern in
    let f-long = entries_long f ∙ ap (λ (n : ℕ). n / entry_bytes) (part_long s sheet.pattern inside.pattern) in
    let y = λ (part : Part). entries_of (bytes_of s part) in
    only_order (entries_of f) (given (option_map y sheet.readings)) (listed (held s sheet)) (omega (arith, f-long, sized.small))
    (rw f-long (given_long (sheet.pattern.len / entry_bytes) sheet.readings y (readings_long s sheet.pattern.len sheet.readings inside.readings sized.same)))

-- ---- the whole

only_outcome : (h : Held) (x : Outcome) → Only (first (held_order h)) → Shown h x → OnlyShown x
only_outcome h (refused r) a e = a.cases r e
only_outcome h (singular prime ghost) a e = tt
only_outcome h (inverted inverse counts) a e = tt

only_comes : (s : List ℕ) (x : Outcome) → Comes s x → OnlyShown x
only_comes s x = by_sheet (sheet_of s) refl
  where
    by_sheet : (v : Result Sheet Refusal) → sheet_of s ≡ v → AfterReading (held_by s v) x → OnlyShown x
    by_sheet (Err r) e a = subst OnlyShown (sym a) (only_sheet s e)
    by_sheet (Ok sheet) e a = only_outcome (held s sheet) x (only_held s e) a

pub never_printed : (s : List ℕ) (r : Refusal) → Comes s (refused r) → let k = (refusal_row r.case).number in (k ≢ 2) × (k ≢ 3) × (k ≢ 7) × (k ≢ 8) × (k ≢ 9)
never_printed s r e = numbers (refusal_row r.case).number (only_comes s (refused r) e)
