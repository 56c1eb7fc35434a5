-- `search`: the array of the map has room for every vertex. Assumes nothing.
use mathlib.Core.Path.{sym}
use Prim.Native.Nat.{ℕ}
use lib.ListN.{length-replicate}
use Rattle.riding.proofs.search.Goals as goal

pub slice_bounds-search_in-end : goal.slice_bounds-search_in-end
slice_bounds-search_in-end c = sym (length-replicate {A = ℕ} 1048576 0)

pub search_in-requires : goal.search_in-requires
search_in-requires c = (c.requires.0, c.requires.1, length-replicate {A = ℕ} 1048576 0)
