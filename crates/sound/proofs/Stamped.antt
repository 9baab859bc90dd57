-- What the stamps of a walk give the laws of crate hidden: nested intervals, and links that are the narrowest and the widest. Assumes nothing.
use Prim.Native.Nat.{ℕ, ◌<◌}
use native.Mathlib.Omega.{arith}
use mathlib.Core.Path.{◌≡◌, sym, ap, subst}
use mathlib.Core.Logic.{◌⊎◌, inl, inr, ⊎_elim}
use mathlib.Core.List.{List}
use lib.ListN.{length}
use Rattle.base.specs.Decide.{same_or}
use Rattle.walk.specs.Walk.{Stamps}
use Rattle.walk.specs.Forest.{discovery_at, Holds, Top, Under}
use Rattle.walk.proofs.Theorems.{Stamped, start_starts, links_below}
use Rattle.hidden.proofs.Intervals.{Nested}
use Rattle.hidden.proofs.Failed.{Linked}

module _ (adj : ℕ → List ℕ) (size : ℕ) (σ : Stamps) (S : Stamped adj size σ) where
  pub stamped_nested : Nested size σ
  stamped_nested =
      record {
        spans = λ q lt. S.forest.spans q (S.all q lt);
        parted = λ q u lq lu d. S.forest.parted q u (S.all q lq) (S.all u lu) d;
      }

  pub stamped_linked : length σ.discoveries ≡ size → Linked size σ
  stamped_linked len =
      record {
        nested = stamped_nested;
        parent_below = λ q lt. (links_below adj size σ S len q lt).0;
        parent = λ q lt.
            ⊎_elim
            (λ (t : Top σ q). inl (t.parent, λ u lu h. ⊎_elim (λ e. e) (λ d. absurd (t.widest u (S.all u lu) d h)) (same_or u q)))
            (λ (u : (p : ℕ) × Under adj σ q p).
            let b = u.1 in
            inr (subst (λ (k : ℕ). (k ≡ q → ⊥) × Holds σ k q × ((x : ℕ) → x < size → (x ≡ q → ⊥) → Holds σ x q → Holds σ x k)) (sym b.parent) (
              λ e. omega (arith, b.begins, ap (discovery_at σ) e),
              (omega (arith, b.begins), omega (arith, b.ends)),
              λ x lx d h. b.narrowest x (S.all x lx) d h,
            )))
            (S.forest.tree q (S.all q lt));
        start_below = λ q lt. (links_below adj size σ S len q lt).1;
        start = λ q lt. (start_starts adj σ S.forest q (S.all q lt)).1;
      }
