-- Stamp by its starts: at the roots, then at the rest; and it is the same by two tests that agree on the order, and over two graphs that agree on the slots. Assumes nothing.
use Prim.Native.Nat.{ℕ, zero, suc, ◌+◌, ◌≤◌, ◌<◌}
use native.Mathlib.Omega.{arith}
use mathlib.Core.Bool.{Bool, false}
use mathlib.Core.Path.{◌≡◌, refl, sym, ap, ◌∙◌}
use mathlib.Core.List.{List, [], ◌∷◌, Memᴰ}
use lib.ListN.{length, get_or, take, replicate, length-replicate}
use Rattle.base.specs.Lists.{filter, absent}
use Rattle.base.proofs.Lists.{mem_filter, filter_same}
use Rattle.walk.specs.Walk.{Stamps, arrive, leave, edge, edges, enters, start_walk, fresh, stamp_all}
use Rattle.walk.specs.Compressed.{adj_of, stamps, Graph}
use Rattle.walk.proofs.Drive.{fresh_le}
use Rattle.walk.proofs.Run.{mem_below, graph_inside}
use Rattle.implications.specs.Edges.{outs, Built}
use Rattle.implications.proofs.Csr.{built_adj, built_graph}
use Rattle.scc.specs.Groups.{blank}
use Rattle.stamp_walk.specs.Stamping.{ColumnsHold, WalkableEdges}

pub stamped : (adj : ℕ → List ℕ) (root : ℕ → Bool) (order front f p s : List ℕ) (n : ℕ) (σ₀ σ₁ σ₂ : Stamps) → σ₀ ≡ stamps 0 (replicate n 0) f p s → length σ₁.discoveries ≡ n → front ≡ filter root order
    → ((m : ℕ) → fresh σ₀.discoveries ≤ m → σ₁ ≡ edges (start_walk m adj) front σ₀)
    → ((m : ℕ) → fresh σ₁.discoveries ≤ m → σ₂ ≡ edges (start_walk m adj) order σ₁)
    → σ₂ ≡ stamp_all adj root order (stamps 0 (replicate n 0) f p s)
unfolding stamp_all
stamped adj root order front f p s n σ₀ σ₁ σ₂ blank len₁ is one two =
    let many : length σ₀.discoveries ≡ n = ap (λ (σ : Stamps). length σ.discoveries) blank ∙ length-replicate {A = ℕ} n 0 in
    let visit : ℕ → Stamps → Stamps = start_walk n adj in
    two n (omega (arith, fresh_le σ₁.discoveries, len₁))
    ∙ ap (edges visit order) (one n (omega (arith, fresh_le σ₀.discoveries, many)) ∙ ap (λ (l : List ℕ). edges visit l σ₀) is ∙ ap (edges visit (filter root order)) blank)
    ∙ ap (λ (k : ℕ). edges (start_walk k adj) order (edges (start_walk k adj) (filter root order) (stamps 0 (replicate n 0) f p s))) (sym (length-replicate {A = ℕ} n 0))

-- ---- by two tests

stamp_as : (adj : ℕ → List ℕ) (a b : ℕ → Bool) (order : List ℕ) (σ : Stamps) → ((q : ℕ) → Memᴰ q order → a q ≡ b q) → stamp_all adj a order σ ≡ stamp_all adj b order σ
unfolding stamp_all
stamp_as adj a b order σ same = ap (λ (l : List ℕ). edges (start_walk (length σ.discoveries) adj) order (edges (start_walk (length σ.discoveries) adj) l σ)) (filter_same a b order same)

-- ---- over two graphs

edge_as : (f g : ℕ → Stamps → Stamps) (q : ℕ) (σ : Stamps) → f q σ ≡ g q σ → edge f q σ ≡ edge g q σ
unfolding edge
edge_as f g q σ e = go (get_or σ.discoveries q 0)
  where
    go : (n : ℕ) → ◌≡◌ {A = Stamps} (elim n [ zero ↦ f q σ | suc k ↦ σ ]) (elim n [ zero ↦ g q σ | suc k ↦ σ ])
    go zero = e
    go (suc k) = refl

edges_as : (f g : ℕ → Stamps → Stamps) (l : List ℕ) → ((q : ℕ) → Memᴰ q l → (σ : Stamps) → f q σ ≡ g q σ) → (σ : Stamps) → edges f l σ ≡ edges g l σ
unfolding edges
edges_as f g [] same σ = refl
edges_as f g (q ∷ l) same σ = edges_as f g l (λ x m. same x (Memᴰ.tail m)) (edge f q σ) ∙ ap (edges g l) (edge_as f g q σ (same q (Memᴰ.head refl) σ))

module _ (adj adj' : ℕ → List ℕ) (size : ℕ) (inside : (s q : ℕ) → s < size → Memᴰ q (adj s) → q < size) (same : (s : ℕ) → s < size → adj s ≡ adj' s) where
  enters_as : (n r p s : ℕ) → s < size → (σ : Stamps) → enters n adj r p s σ ≡ enters n adj' r p s σ
  unfolding enters
  enters_as zero r p s lt σ = refl
  enters_as (suc n) r p s lt σ =
      ap (leave s)
      (edges_as (λ q. enters n adj r s q) (λ q. enters n adj' r s q) (adj s) (λ q m τ. enters_as n r s q (inside s q lt m) τ) (arrive r p s σ)
      ∙ ap (λ (l : List ℕ). edges (λ q. enters n adj' r s q) l (arrive r p s σ)) (same s lt))

  stamp_over : (root : ℕ → Bool) (order : List ℕ) (σ : Stamps) → ((q : ℕ) → Memᴰ q order → q < size) → stamp_all adj root order σ ≡ stamp_all adj' root order σ
  unfolding stamp_all start_walk
  stamp_over root order σ below =
      let n : ℕ = length σ.discoveries in
      edges_as (start_walk n adj) (start_walk n adj') order (λ q m τ. enters_as n q q q (below q m) τ) (edges (start_walk n adj) (filter root order) σ)
      ∙ ap (edges (start_walk n adj') order) (edges_as (start_walk n adj) (start_walk n adj') (filter root order) (λ q m τ. enters_as n q q q (below q (mem_filter root order m)) τ) σ)

-- ---- the compressed graph, and its marked roots, give the stamps of the edges

module _ {fs ts order O T : List ℕ} {root : List Bool} {roots : List ℕ} {size : ℕ} (W : WalkableEdges size fs ts order O T root roots) (offsets targets : List ℕ) (long : length offsets ≡ size + 1) (B : Built fs ts offsets targets size (length fs)) where
  abbrev front : List ℕ
  front = take (length fs) targets

  pub graph_fits : Graph offsets front size
  graph_fits = built_graph fs ts offsets targets size (length fs) B W.small long (λ q m. mem_below ts size W.heads m)

  pub stamps_as : (marks : List Bool) (f p s : List ℕ) → ((q : ℕ) → q < size → get_or marks q false ≡ absent q ts)
      → stamp_all (adj_of offsets front) (λ q. get_or marks q false) order (blank size f p s) ≡ stamp_all (outs fs ts) (λ q. absent q ts) order (blank size f p s)
  stamps_as marks f p s is =
      stamp_as (adj_of offsets front) (λ q. get_or marks q false) (λ q. absent q ts) order (blank size f p s) (λ q m. is q (mem_below order size W.below m))
      ∙ stamp_over (adj_of offsets front) (outs fs ts) size (graph_inside offsets front size graph_fits) (λ q lt. built_adj fs ts offsets targets size (length fs) B q lt)
      (λ q. absent q ts) order (blank size f p s) (λ q m. mem_below order size W.below m)

-- the four columns of equal stamps
pub columns_of : (σ τ : Stamps) → σ ≡ τ → ColumnsHold τ σ.discoveries σ.finishes σ.parents σ.starts
columns_of σ τ e = record { discs = ap (λ (x : Stamps). x.discoveries) e; fins = ap (λ (x : Stamps). x.finishes) e; pars = ap (λ (x : Stamps). x.parents) e; tops = ap (λ (x : Stamps). x.starts) e }
