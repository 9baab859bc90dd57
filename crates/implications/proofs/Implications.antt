-- The implication graph of the two-literal clauses: taking twins reverses it, and without a variable twice in a clause it has no edge from a slot to itself.
-- Assumes nothing.
use Prim.Native.Nat.{ℕ, ◌*◌, ◌/◌, ◌<◌}
use native.Mathlib.Omega.{arith}
use mathlib.Core.Path.{◌≡◌, refl, sym, ap, subst, ◌∙◌}
use mathlib.Core.Bool.{Bool, true, not}
use mathlib.Core.Logic.{◌⊎◌, inl, inr, ⊎_elim}
use mathlib.Core.List.Memᴰ
use mathlib.Core.List.{List, [], ◌∷◌, Memᴰ}
use lib.ListN.{length, take}
use Rattle.base.specs.Decide.{same_or}
use Rattle.base.specs.Lists.{absent}
use Rattle.base.proofs.Lists.{absent_not, absent_is}
use Rattle.walk.specs.Compressed.{adj_of}
use Rattle.implications.specs.Skew.{Skew}
use Rattle.literal.specs.Literals.{twin}
use Rattle.implications.specs.Edges.{outs, Built}
use Rattle.implications.specs.Clauses.{clause_tos, froms, tos, implications, Once, more}
use Rattle.literal.proofs.Twins.{twin_twice, twin_below, twin_variable}
use Rattle.implications.proofs.Csr.{outs_in, outs_out, outs_mem, built_adj}

-- ---- an edge is the first of the list, or a later one

outs_cases : (f t p q : ℕ) (fs ts : List ℕ) → Memᴰ q (outs (f ∷ fs) (t ∷ ts) p) → ((f ≡ p) × (q ≡ t)) ⊎ (Memᴰ q (outs fs ts p))
outs_cases f t p q fs ts m =
    ⊎_elim
    (λ (e : f ≡ p). ⊎_elim (λ (h : q ≡ t). inl (e, h)) (λ k. inr k) (Memᴰ.cases_cons (subst (Memᴰ q) (outs_in f t p fs ts e) m)))
    (λ (d : f ≡ p → ⊥). inr (subst (Memᴰ q) (outs_out f t p fs ts d) m))
    (same_or f p)

outs_none : (p : ℕ) {q : ℕ} → Memᴰ q (outs [] [] p) → ⊥
unfolding outs
outs_none p m = Memᴰ.not-nil m

outs_here : (f t p q : ℕ) (fs ts : List ℕ) → f ≡ p → q ≡ t → Memᴰ q (outs (f ∷ fs) (t ∷ ts) p)
outs_here f t p q fs ts e h = subst (Memᴰ q) (sym (outs_in f t p fs ts e)) (Memᴰ.head h)

outs_there : (f t p q : ℕ) (fs ts : List ℕ) → Memᴰ q (outs fs ts p) → Memᴰ q (outs (f ∷ fs) (t ∷ ts) p)
outs_there f t p q fs ts m =
    ⊎_elim
    (λ (e : f ≡ p). subst (Memᴰ q) (sym (outs_in f t p fs ts e)) (Memᴰ.tail m))
    (λ (d : f ≡ p → ⊥). subst (Memᴰ q) (sym (outs_out f t p fs ts d)) m)
    (same_or f p)

-- ---- the roots: absent among the targets exactly where no slot has an edge to it

ins_outs : (fs ts : List ℕ) → length ts ≡ length fs → {q : ℕ} → Memᴰ q ts → (p : ℕ) × (Memᴰ q (outs fs ts p))
ins_outs fs [] len m = absurd (Memᴰ.not-nil m)
ins_outs [] (t ∷ ts) len m = absurd (omega arith)
ins_outs (f ∷ fs) (t ∷ ts) len {q} m =
    ⊎_elim
    (λ (e : q ≡ t). (f, outs_here f t f q fs ts refl e))
    (λ k. let r = ins_outs fs ts (omega arith) k in (r.0, outs_there f t r.0 q fs ts r.1))
    (Memᴰ.cases_cons m)

pub root_edges : (fs ts : List ℕ) → length ts ≡ length fs → (q : ℕ)
    → (absent q ts ≡ true → (p : ℕ) → Memᴰ q (outs fs ts p) → ⊥) × (((p : ℕ) → Memᴰ q (outs fs ts p) → ⊥) → absent q ts ≡ true)
root_edges fs ts len q = (λ e p m. absent_not q ts e (outs_mem fs ts p m), λ none. absent_is q ts (λ m. let k = ins_outs fs ts len m in none k.0 k.1))

-- ---- each clause gives an edge and its contrapositive

pub flip : (cs : List (List ℕ)) (p q : ℕ) → Memᴰ q (implications cs p) → Memᴰ (twin p) (implications cs (twin q))
unfolding froms tos
flip [] p q m = absurd (outs_none p m)
flip ([] ∷ cs) p q m = flip cs p q m
flip ((a ∷ []) ∷ cs) p q m = flip cs p q m
flip ((a ∷ b ∷ []) ∷ cs) p q m =
    ⊎_elim
    (λ (e : (twin a ≡ p) × (q ≡ b)).
    outs_there (twin a) b (twin q) (twin p) (twin b ∷ froms cs) (a ∷ tos cs) (outs_here (twin b) a (twin q) (twin p) (froms cs) (tos cs) (ap twin (sym e.1)) (ap twin (sym e.0) ∙ twin_twice a)))
    (λ m'.
    ⊎_elim
    (λ (e : (twin b ≡ p) × (q ≡ a)). outs_here (twin a) b (twin q) (twin p) (twin b ∷ froms cs) (a ∷ tos cs) (ap twin (sym e.1)) (ap twin (sym e.0) ∙ twin_twice b))
    (λ m''. outs_there (twin a) b (twin q) (twin p) (twin b ∷ froms cs) (a ∷ tos cs) (outs_there (twin b) a (twin q) (twin p) (froms cs) (tos cs) (flip cs p q m'')))
    (outs_cases (twin b) a p q (froms cs) (tos cs) m'))
    (outs_cases (twin a) b p q (twin b ∷ froms cs) (a ∷ tos cs) m)
flip ((a ∷ b ∷ c ∷ ls) ∷ cs) p q m = flip cs p q m

-- ---- its slots are the clauses' literals

pub tos_mem : (cs : List (List ℕ)) {q : ℕ} → Memᴰ q (tos cs) → (c : List ℕ) × (Memᴰ c cs) × (Memᴰ q c)
unfolding tos
tos_mem [] m = absurd (Memᴰ.not-nil m)
tos_mem (c ∷ cs) {q} m =
    ⊎_elim
    (λ here. (c, Memᴰ.head refl, in_clause c here))
    (λ later. let k = tos_mem cs later in (k.0, Memᴰ.tail k.1, k.2))
    (Memᴰ.append_cases (clause_tos c) m)
  where
    in_clause : (c : List ℕ) → Memᴰ q (clause_tos c) → Memᴰ q c
    in_clause [] n = n
    in_clause (a ∷ []) n = absurd (Memᴰ.not-nil n)
    in_clause (a ∷ b ∷ []) n =
        ⊎_elim
        (λ (e : q ≡ b). Memᴰ.tail (Memᴰ.head e))
        (λ k. ⊎_elim (λ (e : q ≡ a). Memᴰ.head e) (λ z. absurd (Memᴰ.not-nil z)) (Memᴰ.cases_cons k))
        (Memᴰ.cases_cons n)
    in_clause (a ∷ b ∷ x ∷ ls) n = absurd (Memᴰ.not-nil n)

-- THE THEOREM: the implication graph is skew-symmetric
pub implications_skew : (cs : List (List ℕ)) (v : ℕ) → ((c : List ℕ) → Memᴰ c cs → (q : ℕ) → Memᴰ q c → q < 2 * v) → Skew (implications cs) twin (2 * v)
implications_skew cs v slots =
    record {
      inside = λ p q lt m. let k = tos_mem cs (outs_mem (froms cs) (tos cs) p m) in slots k.0 k.1 q k.2;
      below = λ p lt. twin_below v p lt;
      twice = λ p lt. twin_twice p;
      flip = λ p q lt m. flip cs p q m;
    }

-- ---- no edge goes from a slot to itself

-- neither edge of a clause of two variables
no_loop : (a b p : ℕ) → Once (a ∷ b ∷ []) → ((twin a ≡ p) × (p ≡ b)) ⊎ ((twin b ≡ p) × (p ≡ a)) → ⊥
no_loop a b p (more apart o) (inl e) = apart b (Memᴰ.head refl) (ap (λ (k : ℕ). k / 2) (sym (e.0 ∙ e.1)) ∙ twin_variable a)
no_loop a b p (more apart o) (inr e) = apart b (Memᴰ.head refl) (sym (twin_variable b) ∙ ap (λ (k : ℕ). k / 2) (e.0 ∙ e.1))

pub no_self_edge : (cs : List (List ℕ)) → ((c : List ℕ) → Memᴰ c cs → Once c) → (p : ℕ) → Memᴰ p (implications cs p) → ⊥
unfolding froms tos
no_self_edge [] once p m = outs_none p m
no_self_edge ([] ∷ cs) once p m = no_self_edge cs (λ c k. once c (Memᴰ.tail k)) p m
no_self_edge ((a ∷ []) ∷ cs) once p m = no_self_edge cs (λ c k. once c (Memᴰ.tail k)) p m
no_self_edge ((a ∷ b ∷ []) ∷ cs) once p m =
    let o : Once (a ∷ b ∷ []) = once (a ∷ b ∷ []) (Memᴰ.head refl) in
    ⊎_elim
    (λ (e : (twin a ≡ p) × (p ≡ b)). no_loop a b p o (inl e))
    (λ m'.
    ⊎_elim
    (λ (e : (twin b ≡ p) × (p ≡ a)). no_loop a b p o (inr e))
    (λ m''. no_self_edge cs (λ c k. once c (Memᴰ.tail k)) p m'')
    (outs_cases (twin b) a p p (froms cs) (tos cs) m'))
    (outs_cases (twin a) b p p (twin b ∷ froms cs) (a ∷ tos cs) m)
no_self_edge ((a ∷ b ∷ x ∷ ls) ∷ cs) once p m = no_self_edge cs (λ c k. once c (Memᴰ.tail k)) p m

-- ---- an edge is an implication

-- an assignment to slots: a twin has the opposite value, and each clause has a literal that is true
pub record Satisfies (val : ℕ → Bool) (cs : List (List ℕ)) : Type 0 where
  pub opposite : (s : ℕ) → val (twin s) ≡ not (val s)
  pub each : (c : List ℕ) → Memᴰ c cs → (q : ℕ) × (Memᴰ q c) × (val q ≡ true)

satisfies_rest : (val : ℕ → Bool) (c : List ℕ) (cs : List (List ℕ)) → Satisfies val (c ∷ cs) → Satisfies val cs
satisfies_rest val c cs S = record { opposite = S.opposite; each = λ d m. S.each d (Memᴰ.tail m) }

-- of a true pair, the literal whose twin is true is not the true one
other_true : (val : ℕ → Bool) (a b : ℕ) → ((s : ℕ) → val (twin s) ≡ not (val s)) → (q : ℕ) × ((q ≡ a) ⊎ (q ≡ b)) × (val q ≡ true) → val (twin a) ≡ true → val b ≡ true
other_true val a b opposite (q, inl e, t) h = absurd (let z : ◌≡◌ {A = ℕ} 0 1 = cc (sym h ∙ opposite a ∙ ap (λ (k : ℕ). not (val k)) (sym e) ∙ ap not t) in omega arith)
other_true val a b opposite (q, inr e, t) h = ap val (sym e) ∙ t

either : {q a b : ℕ} → Memᴰ q (a ∷ b ∷ []) → (q ≡ a) ⊎ (q ≡ b)
either m = ⊎_elim (λ e. inl e) (λ k. ⊎_elim (λ e. inr e) (λ z. absurd (Memᴰ.not-nil z)) (Memᴰ.cases_cons k)) (Memᴰ.cases_cons m)

pub edge_true : (val : ℕ → Bool) (cs : List (List ℕ)) → Satisfies val cs → (p q : ℕ) → Memᴰ q (implications cs p) → val p ≡ true → val q ≡ true
unfolding froms tos
edge_true val [] S p q m h = absurd (outs_none p m)
edge_true val ([] ∷ cs) S p q m h = edge_true val cs (satisfies_rest val [] cs S) p q m h
edge_true val ((a ∷ []) ∷ cs) S p q m h = edge_true val cs (satisfies_rest val (a ∷ []) cs S) p q m h
edge_true val ((a ∷ b ∷ []) ∷ cs) S p q m h =
    let (x, in_c, t) = S.each (a ∷ b ∷ []) (Memᴰ.head refl) in
    ⊎_elim
    (λ (e : (twin a ≡ p) × (q ≡ b)). ap val e.1 ∙ other_true val a b S.opposite (x, either in_c, t) (ap val e.0 ∙ h))
    (λ m'.
    ⊎_elim
    (λ (e : (twin b ≡ p) × (q ≡ a)). ap val e.1 ∙ other_true val b a S.opposite (x, ⊎_elim (λ k. inr k) (λ k. inl k) (either in_c), t) (ap val e.0 ∙ h))
    (λ m''. edge_true val cs (satisfies_rest val (a ∷ b ∷ []) cs S) p q m'' h)
    (outs_cases (twin b) a p q (froms cs) (tos cs) m'))
    (outs_cases (twin a) b p q (twin b ∷ froms cs) (a ∷ tos cs) m)
edge_true val ((a ∷ b ∷ x ∷ ls) ∷ cs) S p q m h = edge_true val cs (satisfies_rest val (a ∷ b ∷ x ∷ ls) cs S) p q m h

-- ---- and so is its compressed form

pub skew_as : (adj adj' : ℕ → List ℕ) (twin : ℕ → ℕ) (size : ℕ) → ((s : ℕ) → s < size → adj' s ≡ adj s) → Skew adj twin size → Skew adj' twin size
skew_as adj adj' twin size same K =
    record {
      inside = λ p q lt m. K.inside p q lt (subst (Memᴰ q) (same p lt) m);
      below = K.below;
      twice = K.twice;
      flip = λ p q lt m.
          let m' : Memᴰ q (adj p) = subst (Memᴰ q) (same p lt) m in
          subst (Memᴰ (twin p)) (sym (same (twin q) (K.below q (K.inside p q lt m')))) (K.flip p q lt m');
    }

pub built_skew : (cs : List (List ℕ)) (offsets targets : List ℕ) (v r : ℕ) → ((c : List ℕ) → Memᴰ c cs → (q : ℕ) → Memᴰ q c → q < 2 * v)
    → Built (froms cs) (tos cs) offsets targets (2 * v) r → Skew (adj_of offsets (take r targets)) twin (2 * v)
built_skew cs offsets targets v r slots b =
    skew_as (implications cs) (adj_of offsets (take r targets)) twin (2 * v) (λ s lt. built_adj (froms cs) (tos cs) offsets targets (2 * v) r b s lt) (implications_skew cs v slots)
