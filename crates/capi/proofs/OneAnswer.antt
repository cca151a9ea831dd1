-- For every input each exported call has one reply and one content of the output: any two that fit are equal, since the answers behind them are.
-- Assumes nothing.
use Prim.Native.Nat.{ℕ}
use mathlib.Core.Path.{◌≡◌, sym, ◌∙◌}
use mathlib.Core.List.{List}
use Rattle.answer.specs.Reply.{Replied}
use Rattle.answer.specs.declared.Reply.{Reply}
use Rattle.answer.proofs.OneAnswer.{one-reply}
use Rattle.calls.specs.Promises.{Mixes, Reduces, Folds}
use Rattle.calls.proofs.OneAnswer.{mix-one_answer, reduce-one_answer, fold-one_answer}
use Rattle.pattern.specs.Sent.{Sent}
use Rattle.factors.specs.Factored.{Factored}
use Rattle.pattern.specs.Promises.{Inverts, Unmixes}
use Rattle.pattern.proofs.OneAnswer.{invert_one_answer, unmix_one_answer, same_one_answer}
use Rattle.sheet.specs.Sheets.{sheet_of}
use Rattle.capi.specs.SheetReply.{sheet_reply}
use Rattle.capi.specs.declared.SheetReply.{SheetReply}
use Rattle.capi.specs.Judgement.{Judges}
use Rattle.capi.specs.declared.Judgement.{Judgement}

pub mix-one-reply : (a b : List ℕ) (m : ℕ) (old : List ℕ) {r r' : Reply} {x y : List ℕ}
    → Replied (λ answer. Mixes a b m old answer x) r → Replied (λ answer. Mixes a b m old answer y) r' → (r ≡ r') × (x ≡ y)
mix-one-reply a b m old = one-reply (Mixes a b m old) (λ s t. mix-one_answer a b m old)

pub reduce-one-reply : (a : List ℕ) (m m' : ℕ) (old : List ℕ) {r r' : Reply} {x y : List ℕ}
    → Replied (λ answer. Reduces a m m' old answer x) r → Replied (λ answer. Reduces a m m' old answer y) r' → (r ≡ r') × (x ≡ y)
reduce-one-reply a m m' old = one-reply (Reduces a m m' old) (λ s t. reduce-one_answer a m m' old)

pub fold-one-reply : (a : List ℕ) (m : ℕ) (old : List ℕ) {r r' : Reply} {x y : List ℕ}
    → Replied (λ answer. Folds a m old answer x) r → Replied (λ answer. Folds a m old answer y) r' → (r ≡ r') × (x ≡ y)
fold-one-reply a m old = one-reply (Folds a m old) (λ s t. fold-one_answer a m old)

pub invert_one-reply : (f : List ℕ) (M : Factored) (old : List ℕ) {r r' : Reply} {x y : List ℕ}
    → Replied (λ answer. Inverts f M old answer x) r → Replied (λ answer. Inverts f M old answer y) r' → (r ≡ r') × (x ≡ y)
invert_one-reply f M old = one-reply (Inverts f M old) (λ s t. invert_one_answer f M old)

pub unmix_one-reply : (s : Sent) (M : Factored) (old : List ℕ) {r r' : Reply} {x y : List ℕ}
    → Replied (λ answer. Unmixes s M old answer x) r → Replied (λ answer. Unmixes s M old answer y) r' → (r ≡ r') × (x ≡ y)
unmix_one-reply s M old = one-reply (Unmixes s M old) (λ a b. unmix_one_answer s M old)

pub same_one-judgement : (s₁ s₂ : Sent) (M : Factored) {r r' : Judgement} → Judges s₁ s₂ M r → Judges s₁ s₂ M r' → r ≡ r'
same_one-judgement s₁ s₂ M h k = let one = same_one_answer s₁ s₂ M h.fits k.fits in h.is ∙ (rw (one.0, one.1)) ∙ sym k.is

pub read_one-reply : (s : List ℕ) {r r' : SheetReply} → r ≡ sheet_reply (sheet_of s) → r' ≡ sheet_reply (sheet_of s) → r ≡ r'
read_one-reply s e d = e ∙ sym d
