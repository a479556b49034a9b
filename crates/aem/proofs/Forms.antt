-- The forms that run by the graph, part by part.
use Rattle.std.proofs.Common.{◌≡◌, ℕ, Bool, true, false, nat_eq, MatchBool, refl, ap, sym, ◌∙◌, subst}
use borrow.Author.Tests.{eqb-true}
use Rattle.ae_text.specs.declared.refusal.Spot.{Spot}
use Rattle.ae_tree.specs.declared.tree.Need.{Need}
use Rattle.ae_tree.specs.declared.tree.Need.TheVariants.{Exclusive}
use Rattle.ae_tree.specs.declared.tree.GroupNeed.{GroupNeed}
use Rattle.ae_tree.specs.declared.tree.Block.{Block, out-Block, roll-out-Block}
use Rattle.ae_tree.specs.Plain.{Lines, Definition}
use Rattle.ae_tree.specs.Shown.{braced, no-roll}
use Rattle.ae_tree.specs.Built.{IsMain, AreBuilt}
use Rattle.aem.specs.Forms.{IsExclusiveIo, IsBuiltMethod}

pub no_out : (b : Block) → (braced b).no ≡ (out-Block b).no
no_out b = ap (λ (c : Block). (braced c).no) (sym (roll-out-Block b)) ∙ no-roll (out-Block b)

abbrev need_of : Need → ℕ → Spot → GroupNeed
need_of need name at = record { need = need; group = record { name = name; at = at } }

pub exclusive_io : (n : GroupNeed) → n.need ≡ Exclusive → MatchBool (nat_eq n.group.name 0) (IsExclusiveIo n)
    (IsExclusiveIo n → ⊥)
exclusive_io n h = by (nat_eq n.group.name 0) refl
  where
    by : (b : Bool) → nat_eq n.group.name 0 ≡ b → MatchBool b (IsExclusiveIo n) (IsExclusiveIo n → ⊥)
    by true e = (
      n.group.at,
      ap (λ w. need_of w n.group.name n.group.at) h ∙ ap (λ x. need_of Exclusive x n.group.at)
          (eqb-true n.group.name 0 e),
    )
    by false e = λ p. let t : nat_eq n.group.name 0 ≡ true = ap (λ (x : GroupNeed). nat_eq x.group.name 0) p.1 in cc

-- a method `main` is built exactly where its statements are
pub method_of : (m : Definition) → IsMain m → (l : Lines) → m.body ≡ l → (b : Bool)
    → MatchBool b (AreBuilt l) (AreBuilt l → ⊥) → MatchBool b (IsBuiltMethod m) (IsBuiltMethod m → ⊥)
method_of m h l e true n = (h, subst AreBuilt (sym e) n)
method_of m h l e false n = λ p. n (subst AreBuilt e p.1)
