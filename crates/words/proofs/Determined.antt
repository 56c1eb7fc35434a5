-- Any two answers that a contract allows are equal, and so are any two states of a buffer that was lent. Assumes nothing.
use mathlib.Core.Path.{◌≡◌, sym, ap, ◌∙◌}
use Prim.Native.Nat.{ℕ}
use lib.IntN.{ℤ}
use Rattle.words.proofs.word.Reads as word
use Rattle.words.proofs.word_at.Reads as word_at
use Rattle.words.proofs.refused.Reads as refused
use Rattle.words.proofs.zero.Reads as zero
use Rattle.words.proofs.half_at.Reads as half_at
use Rattle.words.proofs.seconds_of.Reads as seconds-of
use Rattle.words.proofs.not_after.Reads as not_after
use Rattle.words.proofs.since.Reads as since
use Rattle.words.proofs.ticks_of.Reads as ticks-of
use Rattle.words.proofs.ticks_before.Reads as ticks-before
use Rattle.words.proofs.walked.Reads as walked
use Rattle.words.proofs.put_word.Reads as put_word

-- ---- answers
-- what stands between κs and the arguments is what the type in the reason's place brings
pub one-refused : (κs b c d f g h i j k : _) (a : _) (z z' : _) (e e' : _) → refused.Post κs b c d f g h i j k a z e → refused.Post κs b c d f g h i j k a z' e' → z ≡ z'
one-refused κs b c d f g h i j k a z z' e e' p q = p.1 ∙ sym q.1

pub one_word : (κs : _) (a : _) (z z' : _) (e e' : _) → word.Post κs a z e → word.Post κs a z' e' → z ≡ z'
one_word κs a z z' e e' p q = p ∙ sym q

pub one-word-at : (κs : _) (a : _) (z z' : _) (e e' : _) → word_at.Post κs a z e → word_at.Post κs a z' e' → z ≡ z'
one-word-at κs a z z' e e' p q = p ∙ sym q

pub one-half-at : (κs : _) (a : _) (z z' : _) (e e' : _) → half_at.Post κs a z e → half_at.Post κs a z' e' → z ≡ z'
one-half-at κs a z z' e e' p q = p ∙ sym q

pub one-seconds-of : (κs : _) (a : _) (z z' : _) (e e' : _) → seconds-of.Post κs a z e → seconds-of.Post κs a z' e' → z ≡ z'
one-seconds-of κs a z z' e e' p q = p ∙ sym q

pub one-not-after : (κs : _) (a : _) (z z' : _) (e e' : _) → not_after.Post κs a z e → not_after.Post κs a z' e' → z ≡ z'
one-not-after κs a z z' e e' p q = p ∙ sym q

pub one-since : (κs : _) (a : _) (z z' : _) (e e' : _) → since.Post κs a z e → since.Post κs a z' e' → z ≡ z'
one-since κs a z z' e e' p q = ap (λ (x : ℤ). record { 0 = x }) (p ∙ sym q)

pub one-ticks-of : (κs : _) (a : _) (z z' : _) (e e' : _) → ticks-of.Post κs a z e → ticks-of.Post κs a z' e' → z ≡ z'
one-ticks-of κs a z z' e e' p q = ap (λ (x : ℕ). record { 0 = x }) (p ∙ sym q)

pub one-ticks-before : (κs : _) (a : _) (z z' : _) (e e' : _) → ticks-before.Post κs a z e → ticks-before.Post κs a z' e' → z ≡ z'
one-ticks-before κs a z z' e e' p q = ap (λ (x : ℕ). record { 0 = x }) (p ∙ sym q)

pub one-walked : (κs : _) (a : _) (z z' : _) (e e' : _) → walked.Post κs a z e → walked.Post κs a z' e' → z ≡ z'
one-walked κs a z z' e e' p q = ap (λ (x : ℕ). record { 0 = x }) (p ∙ sym q)

-- ---- buffers
pub one-put-word : (κs : _) (a : _) (z z' : _) (e e' : _) → put_word.Post κs a z e → put_word.Post κs a z' e' → e.0.now ≡ e'.0.now
one-put-word κs a z z' e e' p q = p ∙ sym q

pub one-zero : (κs : _) (a : _) (z z' : _) (e e' : _) → zero.Post κs a z e → zero.Post κs a z' e' → e.0.now ≡ e'.0.now
one-zero κs a z z' e e' p q = p ∙ sym q
