-- The edges of a formula's graph are its standing pairs, each read both ways. Assumes nothing.
use Prim.Native.Nat.{ℕ, ◌*◌, ◌<◌}
use native.Mathlib.Omega.{arith}
use mathlib.Core.Path.{◌≡◌, refl, sym, ap, subst}
use mathlib.Core.Logic.{◌⊎◌, inl, inr, ⊎_elim}
use mathlib.Core.List.Memᴰ
use mathlib.Core.List.{List, [], ◌∷◌, map, Memᴰ}
use Rattle.literal.specs.Literals.{twin}
use Rattle.implications.specs.Clauses.{froms, tos, Once, empty}
use Rattle.implications.proofs.Implications.{flip, no_self_edge}
use Rattle.hidden.proofs.Pairs.{Reads, by_reads}
use Rattle.sound.specs.Formula.{Clause, dropped, standing, literals_in, graph}
use Rattle.sound.specs.Kept.{Shaped}
use Rattle.scc.proofs.Edges.{Edge, first, later, outs_edge, edge_outs}

-- ---- clauses

pub standing_eq : {C D : List ℕ} → standing C ≡ standing D → C ≡ D
unfolding literals_in
standing_eq e = ap literals_in e

pub not_standing : {C : List ℕ} → dropped ≡ standing C → ⊥
not_standing e = let z : ◌≡◌ {A = ℕ} 0 1 = cc in omega arith

-- a clause of a formula's literals is a standing one, or empty
literals_mem : (f : List Clause) {C : List ℕ} → Memᴰ C (map literals_in f) → Memᴰ (standing C) f ⊎ (C ≡ [])
unfolding literals_in
literals_mem f {C} m = let r = Memᴰ.of_map literals_in f m in go r.0 r.1 r.2
  where
    go : (c : Clause) → Memᴰ c f → literals_in c ≡ C → Memᴰ (standing C) f ⊎ (C ≡ [])
    go dropped i e = inr (sym e)
    go (standing D) i e = inl (subst (λ (x : List ℕ). Memᴰ (standing x) f) e i)

pub mem_literals : (f : List Clause) {C : List ℕ} → Memᴰ (standing C) f → Memᴰ C (map literals_in f)
unfolding literals_in
mem_literals f m = Memᴰ.map literals_in m

-- so what the shape rule says of standing clauses is true of the clauses that the graph is made of
pub shaped_below : (vars : ℕ) (f : List Clause) → Shaped vars f → (C : List ℕ) → Memᴰ C (map literals_in f) → (l : ℕ) → Memᴰ l C → l < 2 * vars
shaped_below vars f shaped C m l k =
    ⊎_elim (λ i. shaped.below C i l k) (λ (e : C ≡ []). absurd (Memᴰ.not-nil (subst (Memᴰ l) e k))) (literals_mem f m)

pub shaped_once : (vars : ℕ) (f : List Clause) → Shaped vars f → (C : List ℕ) → Memᴰ C (map literals_in f) → Once C
shaped_once vars f shaped C m = ⊎_elim (λ i. shaped.once C i) (λ (e : C ≡ []). subst Once (sym e) empty) (literals_mem f m)

-- ---- edges

column_pair : (cs : List (List ℕ)) (s t : ℕ) → Edge s t (froms cs) (tos cs) → (a : ℕ) × (b : ℕ) × Memᴰ (a ∷ b ∷ []) cs × Reads a b s t
unfolding froms tos
column_pair [] s t e = elim e [ ]
column_pair ([] ∷ cs) s t e = let r = column_pair cs s t e in (r.0, r.1, Memᴰ.tail r.2, r.3)
column_pair ((a ∷ []) ∷ cs) s t e = let r = column_pair cs s t e in (r.0, r.1, Memᴰ.tail r.2, r.3)
column_pair ((a ∷ b ∷ []) ∷ cs) s t (first p q) = (a, b, Memᴰ.head refl, inl (sym p, sym q))
column_pair ((a ∷ b ∷ []) ∷ cs) s t (later (first p q)) = (a, b, Memᴰ.head refl, inr (sym p, sym q))
column_pair ((a ∷ b ∷ []) ∷ cs) s t (later (later e)) = let r = column_pair cs s t e in (r.0, r.1, Memᴰ.tail r.2, r.3)
column_pair ((a ∷ b ∷ c ∷ ls) ∷ cs) s t e = let r = column_pair cs s t e in (r.0, r.1, Memᴰ.tail r.2, r.3)

pair_column : (cs : List (List ℕ)) (a b : ℕ) → Memᴰ (a ∷ b ∷ []) cs → Edge (twin a) b (froms cs) (tos cs) × Edge (twin b) a (froms cs) (tos cs)
unfolding froms tos
pair_column [] a b m = absurd (Memᴰ.not-nil m)
pair_column (c ∷ cs) a b m =
    ⊎_elim
    (λ (e : a ∷ b ∷ [] ≡ c). subst (λ (x : List ℕ). Edge (twin a) b (froms (x ∷ cs)) (tos (x ∷ cs)) × Edge (twin b) a (froms (x ∷ cs)) (tos (x ∷ cs))) e (first refl refl, later (first refl refl)))
    (λ t. let r = pair_column cs a b t in (past c r.0, past c r.1))
    (Memᴰ.cases_cons m)
  where
    past : (c : List ℕ) {s t : ℕ} → Edge s t (froms cs) (tos cs) → Edge s t (froms (c ∷ cs)) (tos (c ∷ cs))
    past [] e = e
    past (x ∷ []) e = e
    past (x ∷ y ∷ []) e = later (later e)
    past (x ∷ y ∷ z ∷ ls) e = e

-- an edge comes from a standing pair of the formula
pub edge_pair : (f : List Clause) (s t : ℕ) → Memᴰ t (graph f s) → (a : ℕ) × (b : ℕ) × Memᴰ (standing (a ∷ b ∷ [])) f × Reads a b s t
unfolding graph
edge_pair f s t m =
    let cs : List (List ℕ) = map literals_in f in
    let r = column_pair cs s t (outs_edge (froms cs) (tos cs) s t m) in
    (r.0, r.1, ⊎_elim (λ i. i) (λ (e : r.0 ∷ r.1 ∷ [] ≡ []). absurd (let z : ◌≡◌ {A = ℕ} 0 1 = cc in omega arith)) (literals_mem f r.2), r.3)

-- a pair gives both its edges
pair_edges : (f : List Clause) (a b : ℕ) → Memᴰ (standing (a ∷ b ∷ [])) f → Memᴰ b (graph f (twin a)) × Memᴰ a (graph f (twin b))
unfolding graph
pair_edges f a b m = let r = pair_column (map literals_in f) a b (mem_literals f m) in (edge_outs r.0, edge_outs r.1)

pub reads_edge : (f : List Clause) (a b s t : ℕ) → Memᴰ (standing (a ∷ b ∷ [])) f → Reads a b s t → Memᴰ t (graph f s)
reads_edge f a b s t m r = let e = pair_edges f a b m in by_reads (λ x y. Memᴰ y (graph f x)) r e.0 e.1

-- the graph is skew-symmetric: each edge has its contrapositive
pub skew : (f : List Clause) (s t : ℕ) → Memᴰ t (graph f s) → Memᴰ (twin s) (graph f (twin t))
unfolding graph
skew f s t m = flip (map literals_in f) s t m

-- without a variable twice, neither edge of a pair goes from a literal to itself
pub reads_other : (a b s t : ℕ) → Once (a ∷ b ∷ []) → Reads a b s t → t ≡ s → ⊥
unfolding graph literals_in
reads_other a b s t once r e =
    no_self_edge ((a ∷ b ∷ []) ∷ [])
    (λ c m. ⊎_elim (λ (i : c ≡ a ∷ b ∷ []). subst Once (sym i) once) (λ n. absurd (Memᴰ.not-nil n)) (Memᴰ.cases_cons m))
    s
    (subst (λ (k : ℕ). Memᴰ k (graph (standing (a ∷ b ∷ []) ∷ []) s)) e (reads_edge (standing (a ∷ b ∷ []) ∷ []) a b s t (Memᴰ.head refl) r))
