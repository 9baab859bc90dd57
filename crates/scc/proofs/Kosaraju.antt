-- Strongly connected components by two walks (Kosaraju, Sharir), where the graph is its own reversal by twins.
--     last_finish    on a path, the slot that finishes last holds the first
--     same_start     after the second walk two slots have the same start exactly if they reach each other
-- Assumes nothing.
use Prim.Native.Nat.{ℕ, ◌≤◌, ◌<◌}
use native.Mathlib.Nat.{le_refl}
use native.Mathlib.Omega.{arith}
use mathlib.Core.Path.{◌≡◌, refl, sym, ap, subst, subst₂, ◌∙◌}
use mathlib.Core.Logic.{◌⊎◌, inl, inr, ⊎_elim}
use mathlib.Core.List.Memᴰ
use mathlib.Core.List.{List, [], ◌∷◌, Memᴰ}
use lib.ListN.{length, length-replicate}
use Rattle.base.specs.Decide.{same_or, le_or, zero_or}
use Rattle.base.proofs.Lists.{get_d_zeros}
use Rattle.walk.specs.Walk.{Stamps, edge, edges, start_walk, Lists}
use Rattle.walk.specs.Forest.{discovery_at, finish_at, start_at, Holds, Parted, Reach, here, on, Forest}
use Rattle.walk.proofs.Run.{Less, less_refl, edge_new, edge_old}
use Rattle.walk.proofs.Steps.{Walked, Sized, sized_less, reach_from}
use Rattle.walk.proofs.Drive.{fresh_all}
use Rattle.walk.proofs.Theorems.{Stamped, holds_reach, start_starts, times_apart, reach_entered, reach_below, forest_start, start_walked, forest_edges, fresh_none}
use Rattle.implications.specs.Skew.{Skew}
use Rattle.scc.specs.Groups.{blank, walk}
use Rattle.scc.specs.Steps.{next, Falls}

pub reach_trans : {adj : ℕ → List ℕ} {a b c : ℕ} → Reach adj a b → Reach adj b c → Reach adj a c
reach_trans r here = r
reach_trans r (on s m) = on (reach_trans r s) m

-- ---- one walk: the slot of a path that finishes last holds the path's first

module _ (adj : ℕ → List ℕ) (σ : Stamps) (F : Forest adj σ) where
  -- an edge goes to a slot that finishes no later, or back to one that holds it
  pub edge_falls : (b c : ℕ) → 0 < discovery_at σ b → Memᴰ c (adj b) → (finish_at σ c ≤ finish_at σ b) ⊎ (Holds σ c b)
  edge_falls b c e m =
      ⊎_elim
      (λ (s : b ≡ c). inl (omega (arith, ap (finish_at σ) s)))
      (λ (d : b ≡ c → ⊥). go (F.parted b c e (F.closed b c e m) d))
      (same_or b c)
    where
      go : Parted σ b c → (finish_at σ c ≤ finish_at σ b) ⊎ (Holds σ c b)
      go (inl h) = absurd (omega (arith, F.seen b c e m))
      go (inr (inl h)) = inl (omega (arith, F.spans b e))
      go (inr (inr (inl h))) = inl (omega arith)
      go (inr (inr (inr h))) = inr (omega arith, omega arith)

  -- where c, entered after a path to b, finishes after y, it holds all that y holds
  overtakes : (x y b c : ℕ) → 0 < discovery_at σ y → 0 < discovery_at σ b → Memᴰ c (adj b) → Holds σ y x → finish_at σ b ≤ finish_at σ y → finish_at σ y < finish_at σ c → Holds σ c x
  overtakes x y b c ey eb m h le lt = ⊎_elim (λ k. absurd (omega arith)) (λ k. go k (F.parted y c ey (F.closed b c eb m) (λ s. omega (arith, ap (finish_at σ) s)))) (edge_falls b c eb m)
    where
      go : Holds σ c b → Parted σ y c → Holds σ c x
      go k (inl p) = absurd (omega (arith, F.spans b eb))
      go k (inr (inl p)) = absurd (omega (arith, F.spans y ey))
      go k (inr (inr (inl p))) = absurd (omega arith)
      go k (inr (inr (inr p))) = (omega arith, omega arith)

  pub last_finish : {x u : ℕ} → 0 < discovery_at σ x → Reach adj x u → (y : ℕ) × (Reach adj x y) × (Holds σ y x) × (finish_at σ u ≤ finish_at σ y)
  last_finish {x} e here = (x, here, (le_refl _, le_refl _), le_refl _)
  last_finish {x} e (on {b = b} {c = c} r m) =
      let (y, ry, h, le) = last_finish e r in
      ⊎_elim
      (λ (k : finish_at σ c ≤ finish_at σ y). (y, ry, h, k))
      (λ (k : finish_at σ y < finish_at σ c). (c, on r m, overtakes x y b c (reach_entered adj σ F e ry) (reach_entered adj σ F e r) m h le k, le_refl _))
      (le_or (finish_at σ c) (finish_at σ y))

-- ---- taking twins reverses paths

module _ (adj : ℕ → List ℕ) (twin : ℕ → ℕ) (size : ℕ) (K : Skew adj twin size) where
  pub mirror : {a b : ℕ} → a < size → Reach adj a b → Reach adj (twin b) (twin a)
  mirror lt here = here
  mirror lt (on {b = b} {c = c} r m) = reach_from (K.flip b c (reach_below adj size K.inside lt r) m) (mirror lt r)

  pub mirror_back : (a b : ℕ) → a < size → b < size → Reach adj (twin a) (twin b) → Reach adj b a
  mirror_back a b la lb r = subst₂ (Reach adj) (K.twice b lb) (K.twice a la) (mirror (K.below a la) r)

-- ---- the second walk

-- after each start of the second walk: each entered slot reaches its start, and slots that reach each other have the same start
pub record Grouped (adj : ℕ → List ℕ) (σ : Stamps) : Type 0 where
  pub back : (q : ℕ) → 0 < discovery_at σ q → Reach adj q (start_at σ q)
  pub alike : (q c : ℕ) → 0 < discovery_at σ q → Reach adj q c → Reach adj c q → start_at σ c ≡ start_at σ q

-- a start whose new slots all reach it keeps that
grouped_start : (adj : ℕ → List ℕ) (r : ℕ) (σ σ' : Stamps) → Forest adj σ → Forest adj σ' → Walked adj (λ q. q ≡ r) r r σ σ' → Grouped adj σ
    → ((q : ℕ) → discovery_at σ q ≡ 0 → Reach adj r q → Reach adj q r) → Grouped adj σ'
grouped_start adj r σ σ' F F' w G returns =
    record {
      back = λ q e.
          ⊎_elim
          (λ (z : discovery_at σ q ≡ 0).
          let a = w.added q (z, e) in
          let there : Reach adj r q = subst (λ (o : ℕ). Reach adj o q) a.reach.1 a.reach.2 in
          subst (Reach adj q) (sym a.start) (returns q z there))
          (λ (s : 0 < discovery_at σ q). subst (Reach adj q) (sym (w.starts_kept q s)) (G.back q s))
          (zero_or (discovery_at σ q));
      alike = λ q c e there again.
          ⊎_elim
          (λ (z : discovery_at σ q ≡ 0).
          ⊎_elim
          (λ (y : discovery_at σ c ≡ 0). (w.added c (y, reach_entered adj σ' F' e there)).start ∙ sym (w.added q (z, e)).start)
          (λ (y : 0 < discovery_at σ c). absurd (let k = reach_entered adj σ F y again in omega (arith, k, z)))
          (zero_or (discovery_at σ c)))
          (λ (s : 0 < discovery_at σ q). w.starts_kept c (reach_entered adj σ F s there) ∙ G.alike q c s there again ∙ sym (w.starts_kept q s))
          (zero_or (discovery_at σ q));
    }

module _ (adj : ℕ → List ℕ) (twin : ℕ → ℕ) (size : ℕ) (K : Skew adj twin size) (σ₁ : Stamps) (S : Stamped adj size σ₁) where
  -- a slot's key is its twin's finish in the first walk
  abbrev key : ℕ → ℕ
  key q = finish_at σ₁ (twin q)

  -- the heart: where all slots of a higher key than r are entered, what r reaches and is not entered reaches r
  returns : (σ : Stamps) (r : ℕ) → Forest adj σ → r < size → ((z : ℕ) → z < size → key r < key z → 0 < discovery_at σ z) → (q : ℕ) → discovery_at σ q ≡ 0 → Reach adj r q → Reach adj q r
  returns σ r F lt high q new there =
      let F₁ = S.forest in
      let ql : q < size = reach_below adj size K.inside lt there in
      let x : ℕ = twin q in
      let u : ℕ = twin r in
      let ul : u < size = K.below r lt in
      let ex : 0 < discovery_at σ₁ x = S.all x (K.below q ql) in
      let (y, xy, h, le) = last_finish adj σ₁ F₁ ex (mirror adj twin size K lt there) in
      let yl : y < size = reach_below adj size K.inside (K.below q ql) xy in
      let ey : 0 < discovery_at σ₁ y = S.all y yl in
      ⊎_elim
      (λ (e : y ≡ u). mirror_back adj twin size K r q lt ql (subst (λ (k : ℕ). Reach adj k x) e (holds_reach adj σ₁ F₁ ey ex h)))
      (λ (d : y ≡ u → ⊥).
      let apart = (times_apart adj σ₁ F₁ y u ey (S.all u ul) d).1 in
      let lower : finish_at σ₁ u < finish_at σ₁ y = ⊎_elim (λ (k : finish_at σ₁ y ≤ finish_at σ₁ u). absurd (apart (omega arith))) (λ (k : finish_at σ₁ u < finish_at σ₁ y). k) (le_or (finish_at σ₁ y) (finish_at σ₁ u)) in
      let e : 0 < discovery_at σ (twin y) = high (twin y) (K.below y yl) (omega (arith, lower, ap (finish_at σ₁) (K.twice y yl))) in
      let k : 0 < discovery_at σ q = reach_entered adj σ F e (subst (Reach adj (twin y)) (K.twice q ql) (mirror adj twin size K (K.below q ql) xy)) in
      absurd (omega arith))
      (same_or y u)

  -- the whole second walk: a forest, grouped, with every slot entered
  abbrev Done : Stamps → Type 0
  Done σ = (Forest adj σ) × (Grouped adj σ) × ((z : ℕ) → z < size → 0 < discovery_at σ z)

  second_walk : (n : ℕ) (qs : List ℕ) → Falls key qs → ((q : ℕ) → Memᴰ q qs → q < size) → (σ : Stamps) → Sized size n σ → Forest adj σ → Grouped adj σ
      → ((z : ℕ) → z < size → (Memᴰ z qs) ⊎ (0 < discovery_at σ z)) → Done (edges (start_walk n adj) qs σ)
  unfolding edges
  second_walk n [] f all σ sz F G left = (F, G, λ z lt. ⊎_elim (λ m. absurd (Memᴰ.not-nil m)) (λ e. e) (left z lt))
  second_walk n (r ∷ rs) (next lower f) all σ sz F G left =
      let lt = all r (Memᴰ.head refl) in
      let high : (z : ℕ) → z < size → key r < key z → 0 < discovery_at σ z = λ z zl k.
      ⊎_elim
      (λ m. absurd (⊎_elim (λ (e : z ≡ r). omega (arith, k, ap key e)) (λ t. omega (arith, k, lower z t)) (Memᴰ.cases_cons m)))
      (λ e. e)
      (left z zl) in
      let After : Stamps → Type 0 = λ τ. (Less σ τ) × (Forest adj τ) × (Grouped adj τ) × ((z : ℕ) → 0 < discovery_at σ z → 0 < discovery_at τ z) × (0 < discovery_at τ r) in
      let first : After (edge (start_walk n adj) r σ) =
      ⊎_elim
      (λ (e : discovery_at σ r ≡ 0).
      let w = start_walked adj size K.inside n r σ sz F lt e in
      let σ' : Stamps = start_walk n adj r σ in
      let F' : Forest adj σ' = forest_start adj r σ σ' F w.1 in
      subst After (sym (edge_new (start_walk n adj) r σ e)) (w.0, F', grouped_start adj r σ σ' F F' w.1 G (returns σ r F lt high), λ z k. omega (arith, k, w.1.discovery_kept z k), w.2))
      (λ (e : 0 < discovery_at σ r). subst After (sym (edge_old (start_walk n adj) r σ (λ o. omega (arith, o, e)))) (less_refl σ, F, G, λ z k. k, e))
      (zero_or (discovery_at σ r)) in
      let τ : Stamps = edge (start_walk n adj) r σ in
      second_walk n rs f (λ q m. all q (Memᴰ.tail m)) τ (sized_less size n σ τ first.0 sz) first.1 first.2
      (λ z zl.
      ⊎_elim
      (λ m. ⊎_elim (λ (e : z ≡ r). inr (subst (λ (k : ℕ). 0 < discovery_at τ k) (sym e) first.4)) (λ t. inl t) (Memᴰ.cases_cons m))
      (λ e. inr (first.3 z e))
      (left z zl))

  -- two slots have the same start exactly if they reach each other
  pub same_start : (σ : Stamps) → Done σ → (a b : ℕ) → a < size → b < size → (start_at σ a ≡ start_at σ b → (Reach adj a b) × (Reach adj b a)) × (Reach adj a b → Reach adj b a → start_at σ a ≡ start_at σ b)
  same_start σ (F, G, all) a b la lb = (λ e. (through a b la lb e, through b a lb la (sym e)), λ there again. G.alike b a (all b lb) again there)
    where
      through : (a b : ℕ) → a < size → b < size → start_at σ a ≡ start_at σ b → Reach adj a b
      through a b la lb e =
          let t = start_starts adj σ F b (all b lb) in
          reach_trans (subst (Reach adj a) e (G.back a (all a la))) (holds_reach adj σ F t.0 (all b lb) t.1)

-- ---- both walks, from blank columns

module _ (adj : ℕ → List ℕ) (size : ℕ) (inside : (s q : ℕ) → s < size → Memᴰ q (adj s) → q < size) (f p s : List ℕ) where
  not_entered : {A : Type 0} (q : ℕ) → 0 < discovery_at (blank size f p s) q → A
  not_entered q e = absurd (omega (arith, e, get_d_zeros size q))

  pub blank_forest : Forest adj (blank size f p s)
  blank_forest =
      record {
        spans = λ q e. not_entered q e;
        past = λ q e. not_entered q e;
        parted = λ q u e d x. not_entered q e;
        tree = λ q e. not_entered q e;
        closed = λ q c e m. not_entered q e;
        seen = λ q c e m. not_entered q e;
        hit = λ t x y. absurd (omega arith);
      }

  pub blank_grouped : Grouped adj (blank size f p s)
  blank_grouped = record { back = λ q e. not_entered q e; alike = λ q c e x y. not_entered q e }

  pub blank_sized : length f ≡ size → length p ≡ size → length s ≡ size → Sized size size (blank size f p s)
  blank_sized hf hp hs = record { discs = length-replicate {A = ℕ} size 0; fins = hf; pars = hp; starts = hs; few = omega (arith, fresh_all size) }

  -- where every slot is listed, a walk of the list is a forest with every slot entered
  pub walk_stamped : (order : List ℕ) → Lists size order → length f ≡ size → length p ≡ size → length s ≡ size → Stamped adj size (walk adj size order f p s)
  unfolding walk
  walk_stamped order l hf hp hs =
      let z = blank_sized hf hp hs in
      let w = forest_edges adj size inside size order l.below (blank size f p s) z blank_forest in
      let σ : Stamps = edges (start_walk size adj) order (blank size f p s) in
      let none_left = fresh_none adj size inside σ.discoveries (λ q lt. w.3 q (l.all q (omega (arith, lt, w.0.discs, z.discs)))) in
      record { forest = w.1; all = λ q lt. w.3 q (l.all q lt); end = omega (arith, w.0.spent, fresh_all size, none_left) }

-- THE THEOREM. Walk once, in any order that lists all slots; walk again, over the same graph, by falling finish of the twins in the first walk:
-- then two slots have the same start exactly if they reach each other.
pub two_walks : (adj : ℕ → List ℕ) (twin : ℕ → ℕ) (size : ℕ) → Skew adj twin size
    → (σ₁ : Stamps) → Stamped adj size σ₁
    → (order f p s : List ℕ) → Lists size order → Falls (λ q. finish_at σ₁ (twin q)) order → length f ≡ size → length p ≡ size → length s ≡ size
    → (a b : ℕ) → a < size → b < size
    → (start_at (walk adj size order f p s) a ≡ start_at (walk adj size order f p s) b → (Reach adj a b) × (Reach adj b a))
    × (Reach adj a b → Reach adj b a → start_at (walk adj size order f p s) a ≡ start_at (walk adj size order f p s) b)
unfolding walk
two_walks adj twin size K σ₁ S order f p s l falls hf hp hs =
    let inside = K.inside in
    same_start adj twin size K σ₁ S (edges (start_walk size adj) order (blank size f p s))
    (second_walk adj twin size K σ₁ S size order falls l.below (blank size f p s) (blank_sized adj size inside f p s hf hp hs) (blank_forest adj size inside f p s) (blank_grouped adj size inside f p s) (λ z lt. inl (l.all z lt)))
