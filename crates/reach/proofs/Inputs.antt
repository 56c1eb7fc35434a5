-- What was read of a reader whose bytes are known is the front of these bytes: as much as there is room for, or all. Assumes nothing.
use Rattle.std.proofs.Common.{◌≡◌, ℕ, ◌<◌, ◌≤◌, List, [], ◌++◌, length, take, Option, Some, None, IfSome, arith, ap, ◌∙◌, inl, inr, length-take-le, take_all, append-nil}
use Rattle.std.proofs.lemmas.Bool.{cases_lt}
use Rattle.std.specs.Io.KnownBytes.{Consumes, IsAtEnd}
use lib.Seq.{take-append-le}

-- front is what was read, and rest what is left
front_is : (room : ℕ) (s front rest : List ℕ) → s ≡ front ++ rest → length front ≤ room → (length front < room → rest ≡ []) → take room s ≡ front
front_is room s front rest e fits ended = elim (cases_lt (length front) room) [
  | inl short ↦ ap (take room) (e ∙ ap (λ l. front ++ l) (ended short) ∙ append-nil front) ∙ take_all room front fits
  | inr full ↦ ap (take room) e ∙ take-append-le room front rest full ∙ take_all room front fits
]

pub whole_input : (room n : ℕ) (buf : List ℕ) (known new : Option (List ℕ)) (P : List ℕ → Type 0) → length buf ≡ room → n ≤ room
    → Consumes known new (take n buf) → (n < room → IsAtEnd new) → ((s : List ℕ) → take room s ≡ take n buf → P s) → IfSome known P
whole_input room n buf None new P l b e ended tells = tt
whole_input room n buf (Some s) None P l b e ended tells = absurd e
whole_input room n buf (Some s) (Some rest) P l b e ended tells =
    let count = length-take-le n buf (omega (arith, l, b)) in
    tells s (front_is room s (take n buf) rest e (omega (arith, count, b)) (λ short. ended (omega (arith, count, short))))
