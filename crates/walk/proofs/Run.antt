-- The walk's first laws, over any graph: how one step computes, that the lengths stay, that no slot becomes fresh again, and that the time has room.
-- Assumes nothing.
use Prim.Native.Nat.{ℕ, zero, suc, ◌+◌, ◌*◌, ◌≤◌, ◌<◌}
use native.Mathlib.Nat.{le_refl, le_trans, le_of_suc-le-suc, not-suc-le-zero}
use native.Mathlib.Numerals.{add-one}
use native.Mathlib.Omega.{arith}
use mathlib.Core.Path.{◌≡◌, refl, sym, ap, subst, ◌∙◌}
use mathlib.Core.List.{List, [], ◌∷◌, Memᴰ}
use lib.ListN.{length, get_or, set, take, drop, length-set}
use Rattle.base.proofs.Lists.{mem_take, mem_drop, each_mem, get_d_mem, drop_step, drop_done}
use Rattle.walk.specs.Walk.{Stamps, arrive, leave, edge, edges, enters, fresh}
use Rattle.walk.specs.Compressed.{Graph, Columns, adj_of, stamps}

-- ---- one step

pub edge_new : (visit : ℕ → Stamps → Stamps) (q : ℕ) (σ : Stamps) → get_or σ.discoveries q 0 ≡ 0 → edge visit q σ ≡ visit q σ
unfolding edge
edge_new visit q σ e = rw (e, edge)

pub edge_old : (visit : ℕ → Stamps → Stamps) (q : ℕ) (σ : Stamps) → (get_or σ.discoveries q 0 ≡ 0 → ⊥) → edge visit q σ ≡ σ
unfolding edge
edge_old visit q σ old = go (get_or σ.discoveries q 0) refl
  where
    go : (k : ℕ) → get_or σ.discoveries q 0 ≡ k → edge visit q σ ≡ σ
    go zero e = absurd (old e)
    go (suc k) e = rw (e, edge)

-- what holds of q's edge whether or not q was entered
pub edge_cases : (P : Stamps → Type 0) (visit : ℕ → Stamps → Stamps) (q : ℕ) (σ : Stamps) → (get_or σ.discoveries q 0 ≡ 0 → P (visit q σ)) → P σ → P (edge visit q σ)
unfolding edge
edge_cases P visit q σ new old = go (get_or σ.discoveries q 0) refl
  where
    go : (k : ℕ) → get_or σ.discoveries q 0 ≡ k → P (edge visit q σ)
    go zero e = subst P (sym (edge_new visit q σ e)) (new e)
    go (suc k) e = subst P (sym (edge_old visit q σ (λ z. absurd (let o : ◌≡◌ {A = ℕ} 0 1 = omega arith in omega arith)))) old

-- ---- fresh slots

pub fresh_set : (ds : List ℕ) (s v : ℕ) → s < length ds → get_or ds s 0 ≡ 0 → fresh ds ≡ suc (fresh (set ds s (v + 1)))
unfolding fresh
fresh_set [] s v lt e = absurd (not-suc-le-zero lt)
fresh_set (zero ∷ ds) zero v lt e = rw add-one refl
fresh_set (suc k ∷ ds) zero v lt e = absurd (let z : ◌≡◌ {A = ℕ} 0 1 = omega arith in omega arith)
fresh_set (zero ∷ ds) (suc s) v lt e = ap suc (fresh_set ds s v (le_of_suc-le-suc lt) e)
fresh_set (suc k ∷ ds) (suc s) v lt e = fresh_set ds s v (le_of_suc-le-suc lt) e

-- ---- what every walk keeps

pub record Less (σ σ' : Stamps) : Type 0 where
  pub discs : length σ'.discoveries ≡ length σ.discoveries
  pub fins : length σ'.finishes ≡ length σ.finishes
  pub pars : length σ'.parents ≡ length σ.parents
  pub starts : length σ'.starts ≡ length σ.starts
  pub fewer : fresh σ'.discoveries ≤ fresh σ.discoveries
  pub spent : σ'.time + 2 * fresh σ'.discoveries ≡ σ.time + 2 * fresh σ.discoveries

pub less_refl : (σ : Stamps) → Less σ σ
less_refl σ = record { discs = refl; fins = refl; pars = refl; starts = refl; fewer = le_refl _; spent = refl }

pub less_trans : (σ σ' σ'' : Stamps) → Less σ σ' → Less σ' σ'' → Less σ σ''
less_trans σ σ' σ'' a b =
    record {
      discs = b.discs ∙ a.discs;
      fins = b.fins ∙ a.fins;
      pars = b.pars ∙ a.pars;
      starts = b.starts ∙ a.starts;
      fewer = le_trans b.fewer a.fewer;
      spent = b.spent ∙ a.spent;
    }

module _ (adj : ℕ → List ℕ) (size : ℕ) (inside : (s q : ℕ) → s < size → Memᴰ q (adj s) → q < size) where
  pub edges_less :
      (visit : ℕ → Stamps → Stamps)
      → ((q : ℕ) (σ : Stamps) → length σ.discoveries ≡ size → q < size → get_or σ.discoveries q 0 ≡ 0 → Less σ (visit q σ))
      → (qs : List ℕ) → ((q : ℕ) → Memᴰ q qs → q < size) → (σ : Stamps) → length σ.discoveries ≡ size → Less σ (edges visit qs σ)
  unfolding edges
  edges_less visit one [] all σ len = less_refl σ
  edges_less visit one (q ∷ qs) all σ len =
      let first : Less σ (edge visit q σ) = edge_cases (Less σ) visit q σ (one q σ len (all q (Memᴰ.head refl))) (less_refl σ) in
      less_trans σ (edge visit q σ) _ first (edges_less visit one qs (λ k m. all k (Memᴰ.tail m)) (edge visit q σ) (first.discs ∙ len))

  pub enters_less :
      (n r p s : ℕ) (σ : Stamps) → length σ.discoveries ≡ size → s < size → get_or σ.discoveries s 0 ≡ 0 → Less σ (enters n adj r p s σ)
  unfolding enters arrive leave
  enters_less zero r p s σ len lt e = less_refl σ
  enters_less (suc n) r p s σ len lt e =
      let α : Stamps = arrive r p s σ in
      let ω : Stamps = edges (λ q. enters n adj r s q) (adj s) α in
      let walk : Less α ω = edges_less (λ q. enters n adj r s q) (λ q τ l k f. enters_less n r s q τ l k f) (adj s) (λ q m. inside s q lt m) α (length-set σ.discoveries s (σ.time + 1) ∙ len) in
      let one = fresh_set σ.discoveries s σ.time (subst (λ (k : ℕ). s < k) (sym len) lt) e in
      record {
        discs = walk.discs ∙ length-set σ.discoveries s (σ.time + 1);
        fins = length-set ω.finishes s (ω.time + 1) ∙ walk.fins;
        pars = walk.pars ∙ length-set σ.parents s p;
        starts = walk.starts ∙ length-set σ.starts s r;
        fewer = omega (arith, walk.fewer, one);
        spent = omega (arith, walk.spent, one);
      }

-- with any depth that is at least the number of fresh slots, there is one more step
pub enters_step : (n : ℕ) (adj : ℕ → List ℕ) (r p s : ℕ) (σ : Stamps) → s < length σ.discoveries → get_or σ.discoveries s 0 ≡ 0 → fresh σ.discoveries ≤ n
    → (m : ℕ) × (n ≡ suc m) × (fresh (arrive r p s σ).discoveries ≤ m) × (enters n adj r p s σ ≡ leave s (edges (λ q. enters m adj r s q) (adj s) (arrive r p s σ)))
unfolding enters arrive
enters_step zero adj r p s σ lt e le = absurd (omega (arith, fresh_set σ.discoveries s σ.time lt e))
enters_step (suc m) adj r p s σ lt e le = (m, refl, omega (arith, fresh_set σ.discoveries s σ.time lt e), refl)

-- ---- the graph in compressed form

pub mem_below : (l : List ℕ) (size : ℕ) → ((i : ℕ) → i < length l → get_or l i 0 < size) → {q : ℕ} → Memᴰ q l → q < size
mem_below l size below {q} m = each_mem (λ k. k < size) l 0 below q m

pub graph_inside : (offsets targets : List ℕ) (size : ℕ) → Graph offsets targets size → (s q : ℕ) → s < size → Memᴰ q (adj_of offsets targets s) → q < size
unfolding adj_of
graph_inside offsets targets size g s q lt m = mem_below targets size g.below (mem_take (get_or offsets (s + 1) 0) targets (mem_drop (get_or offsets s 0) (take (get_or offsets (s + 1) 0) targets) m))

-- ---- a loop that visits the slots of a list: the walk of what is left is the whole walk

-- `visit n` visits a slot, with n as the bound on the depth; the loop stands at place i of `slots`
pub record Going (visit : ℕ → ℕ → Stamps → Stamps) (size : ℕ) (slots : List ℕ) (i : ℕ) (σ₀ σ : Stamps) : Type 0 where
  pub cols : Columns size σ
  pub fewer : fresh σ.discoveries ≤ fresh σ₀.discoveries
  pub same : (n : ℕ) → fresh σ₀.discoveries ≤ n → edges (visit n) (drop i slots) σ ≡ edges (visit n) slots σ₀

pub columns_less : (size : ℕ) (σ σ' : Stamps) → Less σ σ' → Columns size σ → Columns size σ'
columns_less size σ σ' l c =
    record {
      discs = l.discs ∙ c.discs;
      fins = l.fins ∙ c.fins;
      pars = l.pars ∙ c.pars;
      starts = l.starts ∙ c.starts;
      room = omega (arith, l.spent, c.room);
    }

-- ---- the needs of `enter` and `walk_edges`, as laws of the walk

-- what stamping a slot leaves for the walk of its edges: one slot less is not yet entered, and the time has room
pub arrived : (size slot parent start : ℕ) (σ : Stamps) → Columns size σ → slot < size → get_or σ.discoveries slot 0 ≡ 0
    → (fresh σ.discoveries ≡ suc (fresh (arrive start parent slot σ).discoveries)) × Columns size (arrive start parent slot σ)
unfolding arrive
arrived size slot parent start σ c lt e =
    let one = fresh_set σ.discoveries slot σ.time (subst (λ (k : ℕ). slot < k) (sym c.discs) lt) e in (
      one,
      record {
        discs = length-set σ.discoveries slot (σ.time + 1) ∙ c.discs;
        fins = c.fins;
        pars = length-set σ.parents slot parent ∙ c.pars;
        starts = length-set σ.starts slot start ∙ c.starts;
        room = omega (arith, c.room, one);
      },
    )

-- what the walk of the edges leaves
pub walked : (offsets targets : List ℕ) (size n slot start : ℕ) (σ σ' : Stamps) → Graph offsets targets size → Columns size σ → slot < size
    → σ' ≡ edges (λ q. enters n (adj_of offsets targets) start slot q) (adj_of offsets targets slot) σ → Columns size σ'
walked offsets targets size n slot start σ σ' g c lt e =
    let inside = graph_inside offsets targets size g in
    columns_less size σ σ' (subst (Less σ) (sym e) (edges_less (adj_of offsets targets) size inside (λ q. enters n (adj_of offsets targets) start slot q) (λ q τ l k f. enters_less (adj_of offsets targets) size inside n start slot q τ l k f) (adj_of offsets targets slot) (λ q m. inside slot q lt m) σ c.discs)) c

-- and with the finish stored it is the whole entering
pub finished : (adj : ℕ → List ℕ) (n slot parent start : ℕ) (σ ω : Stamps) → slot < length σ.discoveries → get_or σ.discoveries slot 0 ≡ 0 → fresh σ.discoveries ≤ n
    → ((m : ℕ) → fresh (arrive start parent slot σ).discoveries ≤ m → ω ≡ edges (λ q. enters m adj start slot q) (adj slot) (arrive start parent slot σ))
    → leave slot ω ≡ enters n adj start parent slot σ
finished adj n slot parent start σ ω lt e le walk =
    let (m, is, enough, step) = enters_step n adj start parent slot σ lt e le in
    ap (leave slot) (walk m enough) ∙ sym step

-- an edge of a slot goes to a slot
pub edge_below : (offsets targets slots : List ℕ) (size slot i : ℕ) → Graph offsets targets size → slot < size → slots ≡ adj_of offsets targets slot → i < length slots → get_or slots i 0 < size
edge_below offsets targets slots size slot i g lt is inner =
    graph_inside offsets targets size g slot (get_or slots i 0) lt (subst (λ (l : List ℕ). Memᴰ (get_or slots i 0) l) is (get_d_mem slots i 0 inner))

-- one turn of the loop, at a slot whose visit keeps what every walk keeps
pub going_step : (visit : ℕ → ℕ → Stamps → Stamps) (size : ℕ) (slots : List ℕ) (i : ℕ) (σ₀ σ σ' : Stamps) → i < length slots
    → ((n : ℕ) → get_or σ.discoveries (get_or slots i 0) 0 ≡ 0 → Less σ (visit n (get_or slots i 0) σ))
    → Going visit size slots i σ₀ σ
    → ((n : ℕ) → fresh σ₀.discoveries ≤ n → σ' ≡ edge (visit n) (get_or slots i 0) σ)
    → Going visit size slots (i + 1) σ₀ σ'
unfolding edges
going_step visit size slots i σ₀ σ σ' lt less going one =
    let q : ℕ = get_or slots i 0 in
    let n₀ : ℕ = fresh σ₀.discoveries in
    let first : Less σ (edge (visit n₀) q σ) = edge_cases (Less σ) (visit n₀) q σ (less n₀) (less_refl σ) in
    let next : Less σ σ' = subst (Less σ) (sym (one n₀ (le_refl _))) first in
    record {
      cols = columns_less size σ σ' next going.cols;
      fewer = le_trans next.fewer going.fewer;
      same = λ n le.
          ap (edges (visit n) (drop (i + 1) slots)) (one n le)
          ∙ ap (λ (l : List ℕ). edges (visit n) l σ) (sym (drop_step slots i lt))
          ∙ going.same n le;
    }

-- the loop is over
pub going_done : (visit : ℕ → ℕ → Stamps → Stamps) (size : ℕ) (slots : List ℕ) (i : ℕ) (σ₀ σ : Stamps) → i ≤ length slots → length slots ≤ i
    → Going visit size slots i σ₀ σ
    → (n : ℕ) → fresh σ₀.discoveries ≤ n → σ ≡ edges (visit n) slots σ₀
unfolding edges
going_done visit size slots i σ₀ σ a b going n le =
    sym (ap (λ (l : List ℕ). edges (visit n) l σ) (drop_done slots i a b)) ∙ going.same n le

pub stamps_eq : {t t' : ℕ} {d d' f f' p p' s s' : List ℕ} → d ≡ d' → f ≡ f' → p ≡ p' → s ≡ s' → t ≡ t' → stamps t d f p s ≡ stamps t' d' f' p' s'
stamps_eq d f p s t = λ i. record { time = t i; discoveries = d i; finishes = f i; parents = p i; starts = s i }
