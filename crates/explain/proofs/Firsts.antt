-- The earliest literal of a list that has a property, and that the searches of the definitions find it. Assumes nothing.
use mathlib.Core.Path.{◌≡◌, refl, sym, ap, subst, ◌∙◌}
use mathlib.Core.Bool.{Bool, true, false, cond}
use mathlib.Core.Logic.{◌⊎◌, inl, inr, ⊎_elim}
use mathlib.Core.List.Memᴰ
use mathlib.Core.List.{List, [], ◌∷◌, ◌++◌, Memᴰ}
use lib.IntN.{ℤ, neg_ℤ}
use Rattle.std.specs.Prelude.{Option, Some, None}
use Rattle.std.specs.List.{find}
use Rattle.std.proofs.lemmas.Option.{none-some, same_Some}
use Rattle.base.proofs.Booleans.{clash}
use Rattle.walk.specs.Walk.{Stamps}
use Rattle.chains.specs.Chains.{ends}
use Rattle.explain.specs.Reasons.{first_held, long_ends}
use Rattle.explain.proofs.Searching.{long_here, long_next}

-- x stands in the list with P, and none in front of it has P
pub record First (P : ℤ → Type 0) (C : List ℤ) (x : ℤ) : Type 0 where
  pub before : List ℤ
  pub behind : List ℤ
  pub split : C ≡ before ++ (x ∷ behind)
  pub has : P x
  pub none : (y : ℤ) → Memᴰ y before → P y → ⊥

module _ {P : ℤ → Type 0} where
  pub first_here : {x : ℤ} {C : List ℤ} → P x → First P (x ∷ C) x
  first_here {x} {C} h = record { before = []; behind = C; split = refl; has = h; none = λ y m k. Memᴰ.not-nil m }

  pub first_later : {x y : ℤ} {C : List ℤ} → (P y → ⊥) → First P C x → First P (y ∷ C) x
  first_later {x} {y} {C} lacks f = record {
    before = y ∷ f.before;
    behind = f.behind;
    split = ap (λ (l : List ℤ). y ∷ l) f.split;
    has = f.has;
    none = λ z m h. ⊎_elim (λ (e : z ≡ y). lacks (subst P e h)) (λ k. f.none z k h) (Memᴰ.cases_cons m);
  }

  pub first_in : {x : ℤ} {C : List ℤ} → First P C x → Memᴰ x C
  first_in {x} f = subst (Memᴰ x) (sym f.split) (middle f.before f.behind)
    where
      middle : (xs ys : List ℤ) → Memᴰ x (xs ++ (x ∷ ys))
      middle [] ys = Memᴰ.head refl
      middle (z ∷ xs) ys = Memᴰ.tail (middle xs ys)

-- of properties that say the same of the list
pub first_as : {P Q : ℤ → Type 0} {C : List ℤ} {x : ℤ} → ((y : ℤ) → Memᴰ y C → P y → Q y) → ((y : ℤ) → Memᴰ y C → Q y → P y) → First P C x → First Q C x
first_as {P} {Q} {C} {x} to from f = record {
  before = f.before;
  behind = f.behind;
  split = f.split;
  has = to x (first_in f) f.has;
  none = λ y m h. f.none y m (from y (subst (Memᴰ y) (sym f.split) (front f.before m)) h);
}
  where
    front : (xs : List ℤ) {y : ℤ} → Memᴰ y xs → Memᴰ y (xs ++ (x ∷ f.behind))
    front [] m = absurd (Memᴰ.not-nil m)
    front (z ∷ xs) m = ⊎_elim (λ e. Memᴰ.head e) (λ k. Memᴰ.tail (front xs k)) (Memᴰ.cases_cons m)

-- ---- by a test

pub first_found : (test : ℤ → Bool) (C : List ℤ) {x : ℤ} → find test C ≡ Some x → First (λ y. test y ≡ true) C x
first_found test [] e = absurd (none-some _ e)
first_found test (y ∷ C) {x} e = go (λ k. first_found test C k) (test y) refl e
  where
    go : (find test C ≡ Some x → First (λ z. test z ≡ true) C x) → (b : Bool) → test y ≡ b → ◌≡◌ {A = Option ℤ} (cond b (Some y) (find test C)) (Some x) → First (λ z. test z ≡ true) (y ∷ C) x
    go rest true t k = subst (First (λ z. test z ≡ true) (y ∷ C)) (same_Some y x k) (first_here t)
    go rest false t k = first_later (λ u. clash u t) (rest k)

-- one that passes the test is found
pub first_some : (test : ℤ → Bool) (C : List ℤ) {x : ℤ} → Memᴰ x C → test x ≡ true → (y : ℤ) × (find test C ≡ Some y)
first_some test [] m t = absurd (Memᴰ.not-nil m)
first_some test (y ∷ C) {x} m t = go (λ k. first_some test C k t) (test y) refl (Memᴰ.cases_cons m)
  where
    go : (Memᴰ x C → (z : ℤ) × (find test C ≡ Some z)) → (b : Bool) → test y ≡ b → (x ≡ y) ⊎ Memᴰ x C → (z : ℤ) × (◌≡◌ {A = Option ℤ} (cond b (Some y) (find test C)) (Some z))
    go rest true e k = (y, refl)
    go rest false e (inl k) = clash (sym (ap test k) ∙ t) e
    go rest false e (inr k) = rest k

-- ---- the first of a list whose complement holds a literal of C

-- its complement holds one
abbrev pub Finds : Stamps → List ℤ → ℤ → Type 0
Finds σ C a = (b : ℤ) × (first_held σ C (neg_ℤ a) ≡ Some b)

pub record Longs (σ : Stamps) (C more : List ℤ) : Type 0 where
  pub a : ℤ
  pub b : ℤ
  pub first : First (Finds σ C) more a
  pub held : first_held σ C (neg_ℤ a) ≡ Some b
  pub is : long_ends σ C more ≡ Some (ends (neg_ℤ a) b)

pub longs : (σ : Stamps) (C more : List ℤ) {x : ℤ} → Memᴰ x more → Finds σ C x → Longs σ C more
longs σ C [] m h = absurd (Memᴰ.not-nil m)
longs σ C (y ∷ more) {x} m h = go (λ k. longs σ C more k h) (first_held σ C (neg_ℤ y)) refl (Memᴰ.cases_cons m)
  where
    go : (Memᴰ x more → Longs σ C more) → (o : Option ℤ) → first_held σ C (neg_ℤ y) ≡ o → (x ≡ y) ⊎ Memᴰ x more → Longs σ C (y ∷ more)
    go rest (Some b) e k = record { a = y; b = b; first = first_here (b, e); held = e; is = long_here σ C y b more e }
    go rest None e (inl k) = absurd (none-some h.0 (sym e ∙ ap (λ (z : ℤ). first_held σ C (neg_ℤ z)) (sym k) ∙ h.1))
    go rest None e (inr k) =
        let r = rest k in
        record { a = r.a; b = r.b; first = first_later (λ f. none-some f.0 (sym e ∙ f.1)) r.first; held = r.held; is = long_next σ C y more e ∙ r.is }
