-- D is no part of a network's offers: with another D the same vertices may follow. Assumes nothing.
use mathlib.Core.List.{List, [], ◌∷◌, ◌++◌}
use Prim.Native.Nat.{ℕ}
use Rattle.journeys.specs.Network.{Network}
use Rattle.journeys.specs.Order.{Settled, Eligible, Chosen, Follows, Order}

-- the network with another D
abbrev pub allowing : Network → ℕ → Network
allowing G D = record { vertices = G.vertices; records = G.records; allowed = D; from = G.from; to = G.to; seed = G.seed; offer = G.offer }

-- within b ticks
module _ (G : Network) (D b : ℕ) (distance : ℕ → ℕ → Type 0) where
  there : {S : List Settled} {x : Settled} → Eligible G distance b S x → Eligible (allowing G D) distance b S x
  there c = record { unsettled = c.unsettled; is = c.is; low = c.low; offered = c.offered }

  here : {S : List Settled} {x : Settled} → Eligible (allowing G D) distance b S x → Eligible G distance b S x
  here c = record { unsettled = c.unsettled; is = c.is; low = c.low; offered = c.offered }

  follows-under : (S l : List Settled) → Follows (allowing G D) distance b S l → Follows G distance b S l
  follows-under S [] f = λ x c. f x (there c)
  follows-under S (x ∷ l) f = (record { may = here f.0.may; first = λ y c. f.0.first y (there c) }, follows-under (S ++ x ∷ []) l f.1)

  pub order-under : {l : List Settled} → Order (allowing G D) distance b l → Order G distance b l
  order-under {l} O = record { steps = follows-under [] l O.steps }
