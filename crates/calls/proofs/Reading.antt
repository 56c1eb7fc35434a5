-- The query as the code reads it is the query that the bytes name. Assumes nothing.
use mathlib.Core.Path.{◌≡◌, ap}
use mathlib.Core.List.{List}
use Prim.Native.Nat.{ℕ, ◌+◌}
use Rattle.journeys.specs.Bytes.{be32, clock}
use Rattle.words.proofs.Signed.{clocked-signed}
use Rattle.records.specs.Asked.{query_of}
use Rattle.calls.specs.CallBytes.{query_in, query_from}

pub query-read : (b : List ℕ) (at : ℕ) → query_of (query_from b at) ≡ query_in b at
query-read b at =
    ap (λ (t : ℕ). record { walk = be32 b at; offset = be32 b (at + 4); arrival = t; duration = be32 b (at + 12); speed = be32 b (at + 16) })
    (clocked-signed (clock (be32 b (at + 8))))
