-- How the calls of `build_graph` fit: tables that keep the shape rule have clauses to list, and the listed edges are fit to build.
-- Assumes nothing.
use Prim.Native.Nat.{ℕ, zero, suc, ◌+◌, ◌*◌, ◌≤◌, ◌<◌}
use native.Mathlib.Omega.{arith}
use mathlib.Core.Path.{◌≡◌, refl, sym, ap, subst, ◌∙◌}
use mathlib.Core.Bool.{Bool}
use mathlib.Core.Logic.{⊎_elim}
use mathlib.Core.List.Memᴰ
use mathlib.Core.List.{List, [], ◌∷◌, map, Memᴰ}
use lib.ListN.{length, get_or, take, drop, length-drop, length-append}
use lib.Seq.{sets, sets-eq, length-sets, take_at, get_or-take, get_or-drop, length-take-le}
use lib.IntN.{ℤ, pos}
use Rattle.base.proofs.Lists.{get_d_mem}
use Rattle.literal.specs.Literals.{slot_of, twin}
use Rattle.literal.proofs.Laws.{slot_below}
use Rattle.literal.proofs.Twins.{twin_below}
use Rattle.implications.specs.declared.Edge.{Edge}
use Rattle.implications.specs.Edges.{Edges}
use Rattle.implications.specs.EdgeList.{froms_of, tos_of}
use Rattle.implications.specs.Clauses.{clause_froms, froms, tos}
use Rattle.implications.proofs.EdgeLists.{many_froms, froms_take, tos_take}
use Rattle.tables.specs.Tables.{start_of, length_of}
use Rattle.tables.specs.Clauses.{slots_at, slots_from}
use Rattle.visits.specs.Formed.{Formed}
use Rattle.table_graph.specs.Pairs.{ClausesInside, EdgeRoom}

-- ---- the tables

-- tables that keep the shape rule
pub formed_listed : {v n s : ℕ} {mark : Bool} {c : List ℕ} {l w : List ℤ} → Formed v n s mark c l w → ClausesInside v n c l
formed_listed F = record {
  few = F.vars.few;
  number = F.number;
  table = omega (arith, F.number, F.records);
  parts = λ i lt. omega (arith, F.rule.parts.inside i lt, F.places);
  each = λ i lt j lj. (F.rule.each i lt).ranged j lj;
}

-- with 1,024 variables in place of v
pub listed_wider : {v n : ℕ} {c : List ℕ} {l : List ℤ} → ClausesInside v n c l → ClausesInside 1024 n c l
listed_wider L = record {
  few = omega arith;
  number = L.number;
  table = L.table;
  parts = L.parts;
  each = λ i lt j lj. record { above = (L.each i lt j lj).above; within = omega (arith, (L.each i lt j lj).within, L.few) };
}

-- ---- the slots of the clauses

pub mem_map : {A : Type 0} (f : A → ℕ) (d : A) (l : List A) {q : ℕ} → Memᴰ q (map f l) → (j : ℕ) × (j < length l) × (q ≡ f (get_or l j d))
mem_map f d [] m = absurd (Memᴰ.not-nil m)
mem_map f d (x ∷ l) m =
    ⊎_elim
    (λ e. (0, omega arith, e))
    (λ t. let k = mem_map f d l t in (suc k.0, omega (arith, k.1), k.2))
    (Memᴰ.cases_cons m)

-- a slot of a clause is that of a literal in its part
pub slot_literal : (cs : List ℕ) (ls : List ℤ) (i : ℕ) → start_of cs i + length_of cs i ≤ length ls → {q : ℕ} → Memᴰ q (slots_at cs ls i)
    → (j : ℕ) × (j < length_of cs i) × (q ≡ slot_of (get_or ls (start_of cs i + j) (pos 0)))
unfolding slots_at
slot_literal cs ls i fits m =
    let len : ℕ = length_of cs i in
    let part : List ℤ = drop (start_of cs i) ls in
    let k = mem_map slot_of (pos 0) (take len part) m in
    let lt : k.0 < len = omega (arith, k.1, length-take-le len part (omega (arith, fits, length-drop (start_of cs i) ls))) in
    (k.0, lt, k.2 ∙ ap slot_of (get_or-take len part k.0 (pos 0) lt ∙ get_or-drop (start_of cs i) ls k.0 (pos 0)))

-- a clause among the first is one of the tables
pub from_clauses : (cs : List ℕ) (ls : List ℤ) (m i : ℕ) {c : List ℕ} → Memᴰ c (slots_from cs ls m i) → (j : ℕ) × (j < i + m) × (c ≡ slots_at cs ls j)
unfolding slots_from
from_clauses cs ls zero i k = absurd (Memᴰ.not-nil k)
from_clauses cs ls (suc m) i k =
    ⊎_elim
    (λ e. (i, omega arith, e))
    (λ t. let r = from_clauses cs ls m (suc i) t in (r.0, omega (arith, r.1), r.2))
    (Memᴰ.cases_cons k)

-- where the literals are of variables up to v, the slots are below 2v
pub slots_in : {v n : ℕ} {cs : List ℕ} {ls : List ℤ} → ClausesInside v n cs ls → (c : List ℕ) → Memᴰ c (slots_from cs ls n 0) → (q : ℕ) → Memᴰ q c → q < 2 * v
slots_in {v} {n} {cs} {ls} L c k q m =
    let r = from_clauses cs ls n 0 k in
    let i : ℕ = r.0 in
    let lt : i < n = omega (arith, r.1) in
    let s = slot_literal cs ls i (L.parts i lt) (subst (Memᴰ q) r.2 m) in
    let l : ℤ = get_or ls (start_of cs i + s.0) (pos 0) in
    let R = L.each i lt s.0 s.1 in
    omega (arith, s.2, slot_below l v R.above R.within)

-- ---- the edges

pub froms_mem : (cs : List (List ℕ)) {p : ℕ} → Memᴰ p (froms cs) → (c : List ℕ) × (Memᴰ c cs) × (a : ℕ) × (Memᴰ a c) × (p ≡ twin a)
unfolding froms
froms_mem [] m = absurd (Memᴰ.not-nil m)
froms_mem (c ∷ cs) {p} m =
    ⊎_elim
    (λ now. let k = in_clause c now in (c, Memᴰ.head refl, k.0, k.1, k.2))
    (λ later. let k = froms_mem cs later in (k.0, Memᴰ.tail k.1, k.2, k.3, k.4))
    (Memᴰ.append_cases (clause_froms c) m)
  where
    in_clause : (c : List ℕ) → Memᴰ p (clause_froms c) → (a : ℕ) × (Memᴰ a c) × (p ≡ twin a)
    in_clause [] n = absurd (Memᴰ.not-nil n)
    in_clause (a ∷ []) n = absurd (Memᴰ.not-nil n)
    in_clause (a ∷ b ∷ []) n =
        ⊎_elim
        (λ (e : p ≡ twin a). (a, Memᴰ.head refl, e))
        (λ k. ⊎_elim (λ (e : p ≡ twin b). (b, Memᴰ.tail (Memᴰ.head refl), e)) (λ z. absurd (Memᴰ.not-nil z)) (Memᴰ.cases_cons k))
        (Memᴰ.cases_cons n)
    in_clause (a ∷ b ∷ x ∷ l) n = absurd (Memᴰ.not-nil n)

same_many : (cs : List (List ℕ)) → length (tos cs) ≡ length (froms cs)
unfolding froms tos
same_many [] = refl
same_many ([] ∷ cs) = same_many cs
same_many ((a ∷ []) ∷ cs) = same_many cs
same_many ((a ∷ b ∷ []) ∷ cs) = ap (λ (n : ℕ). suc (suc n)) (same_many cs)
same_many ((a ∷ b ∷ c ∷ l) ∷ cs) = same_many cs

-- a clause gives two edges at most
pub few_edges : (cs : List ℕ) (ls : List ℤ) (m i : ℕ) → length (froms (slots_from cs ls m i)) ≤ 2 * m
unfolding froms slots_from
few_edges cs ls zero i = omega arith
few_edges cs ls (suc m) i = omega (arith, length-append (clause_froms (slots_at cs ls i)) (froms (slots_from cs ls m (suc i))), two (slots_at cs ls i), few_edges cs ls m (suc i))
  where
    two : (c : List ℕ) → length (clause_froms c) ≤ 2
    two [] = omega arith
    two (a ∷ []) = omega arith
    two (a ∷ b ∷ []) = omega arith
    two (a ∷ b ∷ c ∷ l) = omega arith

-- what is stored at the front of a column
stored : (l vs : List ℕ) (k : ℕ) → length vs ≤ length l → k ≡ length vs → take k (sets l 0 vs) ≡ vs
stored l vs k fits e = ap (take k) (sets-eq vs l 0 (omega arith)) ∙ take_at vs (drop (0 + length vs) l) k (sym e)

module _ {v n : ℕ} {cs : List ℕ} {ls : List ℤ} {F T offsets targets : List ℕ} (R : EdgeRoom v n cs ls F T offsets targets) where
  abbrev clauses : List (List ℕ)
  clauses = slots_from cs ls n 0

  pub front_froms : (k : ℕ) (F' : List ℕ) → k ≡ length (froms clauses) → F' ≡ sets F 0 (froms clauses) → take k F' ≡ froms clauses
  front_froms k F' e is = ap (take k) is ∙ stored F (froms clauses) k (omega (arith, few_edges cs ls n 0, R.froms)) e

  pub front_tos : (k : ℕ) (T' : List ℕ) → k ≡ length (froms clauses) → T' ≡ sets T 0 (tos clauses) → take k T' ≡ tos clauses
  front_tos k T' e is = ap (take k) is ∙ stored T (tos clauses) k (omega (arith, same_many clauses, few_edges cs ls n 0, R.tos)) (omega (arith, e, same_many clauses))

  -- the listed edges are fit to build
  pub fit_edges : Edges (froms clauses) (tos clauses) offsets targets
  fit_edges =
      record {
        pairs = same_many clauses;
        few = omega (arith, few_edges cs ls n 0, R.listed.number);
        room = omega (arith, few_edges cs ls n 0, R.heads);
        slots = λ i lt.
            let k = froms_mem clauses (get_d_mem (froms clauses) i 0 lt) in
            omega (arith, R.marks, k.4, twin_below v k.2 (slots_in R.listed k.0 k.1 k.2 k.3));
      }

-- the first k edges of the list are those of the clauses
module _ {v n : ℕ} {cs : List ℕ} {ls : List ℤ} (es₀ : List Edge) {offsets targets : List ℕ} (R : EdgeRoom v n cs ls (froms_of es₀) (tos_of es₀) offsets targets) (k : ℕ) (es : List Edge)
    (W : (k ≡ length (froms (slots_from cs ls n 0))) × ((froms_of es ≡ sets (froms_of es₀) 0 (froms (slots_from cs ls n 0))) × (tos_of es ≡ sets (tos_of es₀) 0 (tos (slots_from cs ls n 0))))) where
  pub listed_in : k ≤ length es
  listed_in = omega (arith, W.0, few_edges cs ls n 0, R.froms, many_froms es, ap length W.1.0, length-sets (froms_of es₀) 0 (froms (slots_from cs ls n 0)))

  listed_froms : froms_of (take k es) ≡ froms (slots_from cs ls n 0)
  listed_froms = froms_take k es ∙ front_froms R k (froms_of es) W.0 W.1.0

  listed_tos : tos_of (take k es) ≡ tos (slots_from cs ls n 0)
  listed_tos = tos_take k es ∙ front_tos R k (tos_of es) W.0 W.1.1

  -- what holds of the clauses' edges holds of the listed ones, and the other way
  pub as_listed : (P : List ℕ → List ℕ → Type 0) → P (froms (slots_from cs ls n 0)) (tos (slots_from cs ls n 0)) → P (froms_of (take k es)) (tos_of (take k es))
  as_listed P x = subst (λ (l : List ℕ). P l (tos_of (take k es))) (sym listed_froms) (subst (P (froms (slots_from cs ls n 0))) (sym listed_tos) x)

  pub as_clauses : (P : List ℕ → List ℕ → Type 0) → P (froms_of (take k es)) (tos_of (take k es)) → P (froms (slots_from cs ls n 0)) (tos (slots_from cs ls n 0))
  as_clauses P x = subst (P (froms (slots_from cs ls n 0))) listed_tos (subst (λ (l : List ℕ). P l (tos_of (take k es))) listed_froms x)
