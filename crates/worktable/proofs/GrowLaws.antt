-- A table gets more slots: who has a slot keeps it, and the new ones are vacant. Assumes nothing.
use mathlib.Core.Path.{◌≡◌, refl, sym, ap, subst, fun_ext, ◌∙◌}
use mathlib.Core.Logic.{◌≢◌}
use mathlib.Core.List.{List, [], ◌∷◌}
use Prim.Native.Nat.{ℕ, zero, suc, ◌-◌, ◌+◌, ◌%◌, ◌<◌, ◌≤◌}
use native.Mathlib.Omega.{arith}
use native.Mathlib.Decide.{dec_lt}
use lib.ListN.{length}
use Rattle.table_bytes.specs.Columns.{Cols, cols, at}
use Rattle.table_bytes.proofs.Access.{sized}
use Rattle.table_tree.specs.Words.{vacant, vertex_in, bucket_of}
use Rattle.table_tree.specs.Tree.{Win, Kept, Spared}
use Rattle.table_tree.specs.Chains.{Mem, Chain}
use Rattle.table_tree.proofs.ChainLaws.{chain-other, chain-iff}
use Rattle.worktable.specs.Map.{size, size_to}
use Rattle.worktable.specs.Inside.{entry_in, Outside, Vacancies, Layout}
use Rattle.worktable.specs.Table.{map_of, InOrder, Gives}
use Rattle.worktable.specs.declared.Table.{Table}
use Rattle.worktable.proofs.LookupLaws.{lookup-more}
use Rattle.worktable.proofs.LayoutLaws.{vacancies-mod}

-- ---- the numbers from i on, and the vacant slots that have them
ups : ℕ → ℕ → List ℕ
ups zero i = []
ups (suc k) i = i ∷ ups k (i + 1)

ups-length : (k i : ℕ) → length (ups k i) ≡ k
unfolding ups
ups-length zero i = refl
ups-length (suc k) i = ap suc (ups-length k (i + 1))

ups-outside : (k i s : ℕ) → s < i → Outside s (ups k i)
unfolding ups Outside
ups-outside zero i s h = tt
ups-outside (suc k) i s h = ((λ e. absurd (omega arith)), ups-outside k (i + 1) s (omega arith))

ups-linked : (from cap : ℕ) (W N : List ℕ) → cap ≤ 65536 → ((j : ℕ) → from ≤ j → j < cap → at W j ≡ vacant) → ((j : ℕ) → from ≤ j → j < cap → at N j ≡ (j + 1) % 65536)
    → (k i : ℕ) → from ≤ i → i + k ≡ cap → Vacancies cap W N (ups k i) i
unfolding ups Vacancies
ups-linked from cap W N small w n zero i h e = tt
ups-linked from cap W N small w n (suc k) i h e = (
  refl,
  omega arith,
  w i h (omega arith),
  ups-outside k (i + 1) i (omega arith),
  rw (n i h (omega arith)) (vacancies-mod cap W N (ups k (i + 1)) (i + 1) small (ups-linked from cap W N small w n k (i + 1) (omega arith) (omega arith))),
)

-- the numbers of a table with n slots, those from the old ones on vacant
abbrev pub grown : Table → ℕ → Table
grown t n = record { slots = t.slots; room = t.room; capacity = n; mask = t.mask; top = t.capacity; free = n - t.capacity }

module _ {t : Table} {b : List ℕ} (b' : List ℕ) {n : ℕ} {c₁ c₂ : Cols} (o : InOrder t b) (full : t.free ≡ 0) (more : t.capacity < n) (fit : n ≤ t.room)
    (sp : Spared t.capacity n (cols t.slots b) c₁) (pl : Kept c₁ c₂) (bu : Kept c₂ (cols t.slots b')) (win : Win n (cols t.slots b').w (cols t.slots b').t) (len : length b' ≡ length b) where
  abbrev W : List ℕ
  W = (cols t.slots b).w

  abbrev W' : List ℕ
  W' = (cols t.slots b').w

  abbrev N' : List ℕ
  N' = (cols t.slots b').n

  words_are : W' ≡ c₁.w
  words_are = bu.w ∙ pl.w

  nexts-are : N' ≡ c₁.n
  nexts-are = bu.n ∙ pl.n

  old-word : (j : ℕ) → j < t.capacity → at W' j ≡ at W j
  old-word j h = ap (λ (l : List ℕ). at l j) words_are ∙ sp.old_words j h

  new_word : (j : ℕ) → t.capacity ≤ j → j < n → at W' j ≡ vacant
  new_word j h l = ap (λ (l : List ℕ). at l j) words_are ∙ sp.words j h l

  -- who has an entry is one of the old slots
  old-slot : (j : ℕ) → j < n → at W' j ≢ vacant → j < t.capacity
  old-slot j l u = go (dec_lt j t.capacity)
    where
      go : Dec (j < t.capacity) → j < t.capacity
      go (yes h) = h
      go (no h) = absurd (u (new_word j (omega arith) l))

  members : (k x : ℕ) → Mem t.capacity t.mask W k x → Mem n t.mask W' k x
  members k x m = let e = old-word x m.0 in (omega (arith, m.0), (λ z. m.1 (sym e ∙ z)), ap (λ (y : ℕ). bucket_of t.mask (vertex_in y)) e ∙ m.2)

  back : (k x : ℕ) → Mem n t.mask W' k x → Mem t.capacity t.mask W k x
  back k x m = let h = old-slot x m.0 m.1 in let e = old-word x h in (h, (λ z. m.1 (e ∙ z)), ap (λ (y : ℕ). bucket_of t.mask (vertex_in y)) (sym e) ∙ m.2)

  chain : 0 < t.capacity → Chain (Mem n t.mask W') (at (cols t.slots b').h) (at N')
  chain pos =
      subst (λ (H : List ℕ). Chain (Mem n t.mask W') (at H) (at N')) (sym (bu.h ∙ pl.h ∙ sp.h))
      (chain-iff (Mem t.capacity t.mask W) (Mem n t.mask W') (at (cols t.slots b).h) (at N') members back
      (chain-other (Mem t.capacity t.mask W) (at (cols t.slots b).h) (at (cols t.slots b).n) (at N') (λ a x m. ap (λ (l : List ℕ). at l x) nexts-are ∙ sp.old_nexts x m.0) (o.layout pos).chained.chain))

  layout : Layout (grown t n) (cols t.slots b')
  layout = record {
    win = win;
    chained = record {
      mask = omega (arith, o.roomy.mask (omega arith), (sized t.slots b').h);
      chain = record { first = λ k x m. (chain (omega (arith, (back k x m).0))).first k x m; step = λ k x m. (chain (omega (arith, (back k x m).0))).step k x m };
    };
    single = λ x y lx ly ux uy e.
        let hx = old-slot x lx ux in
        let hy = old-slot y ly uy in
        (o.layout (omega arith)).single x y hx hy (λ z. ux (old-word x hx ∙ z)) (λ z. uy (old-word y hy ∙ z)) (ap vertex_in (sym (old-word x hx)) ∙ e ∙ ap vertex_in (old-word y hy));
    list = ups (n - t.capacity) t.capacity;
    count = ups-length (n - t.capacity) t.capacity;
    top16 = omega (arith, o.roomy.small);
    linked = ups-linked t.capacity n W' N' (omega (arith, o.roomy.small)) new_word (λ j h l. ap (λ (l : List ℕ). at l j) nexts-are ∙ sp.nexts j h l) (n - t.capacity) t.capacity (omega arith) (omega arith);
  }

  map_is : map_of (grown t n) b' ≡ map_of t b
  unfolding map_of
  map_is = fun_ext (λ u. ap entry_in (lookup-more t.capacity n W W' u (omega arith) old-word new_word))

  pub gives-grown : Gives t (grown t n) b b' (map_of t b)
  unfolding size
  gives-grown = record {
    holds = record {
      order = record {
        slotted = record { len = len ∙ o.slotted.len; fits = omega (arith, o.roomy.fits); small = omega (arith, o.roomy.small) };
        roomy = record { low = fit; fits = o.roomy.fits; small = o.roomy.small; mask = o.roomy.mask };
        layout = λ h. layout;
        counted = omega (arith, ap (λ m. size_to 65536 m) map_is, o.counted);
      };
      map = map_is;
    };
    room = refl;
    stays = λ v s e p. record { slot = record { low = omega (arith, p.slot.low); used = λ z. p.slot.used (sym (old-word s p.slot.low) ∙ z); vertex = ap vertex_in (old-word s p.slot.low) ∙ p.slot.vertex } };
  }
