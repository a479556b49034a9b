-- Groups of a split list, asked one after the other.
use Rattle.std.proofs.Common.{◌≡◌, Bool, true, false, not, List, [], ◌∷◌, refl, sym, ap, ◌∙◌}
use Rattle.std.specs.Prelude.{⊤}
use Rattle.std.proofs.lemmas.List.Elements.{All-nil, All-cons}
use Rattle.ae_text.specs.declared.refusal.Spot.{Spot}
use Rattle.ae_text.specs.declared.refusal.Rule.{Rule}
use Rattle.ae_text.specs.declared.refusal.Rule.TheVariants as rule
use Rattle.ae_tree.specs.declared.tree.NameAt.{NameAt}
use Rattle.ae_rules.specs.Verdict.{Verdict, Holds, ◌>>◌, fine, require, in_turn}
use Rattle.ae_rules.specs.declared.held.GroupPerm.TheVariants as group
use Rattle.ae_rules.specs.Lookups.{Names}
use Rattle.ae_rules.specs.Table.{no_names, and_also}
use Rattle.ae_rules.specs.Groups.{Groups, group_is, known, may_split, may_split_all}
use Rattle.ae_groups.specs.Contexts.{AreKnown}
use Rattle.ae_groups.proofs.from_rules.PathLemmas.{first_holds}

-- three premises that hold
three_hold : {A : Type 0} (a b d : Bool) (q r s : Rule) (at : Spot) (v : Verdict A) → a ≡ true → b ≡ false → d ≡ true
    → (require a q at >> (require (not b) r at >> (require d s at >> v))) ≡ v
three_hold true false true q r s at v e f g = refl
three_hold false b d q r s at v e f g = absurd (cc)
three_hold true true d q r s at v e f g = absurd (cc)
three_hold true false false q r s at v e f g = absurd (cc)

-- a group that is known, new in the list and exclusive may be split
pub split_next_holds : (gs : Groups) (g : NameAt) (earlier names : Names) → known gs g.name ≡ true
    → earlier g.name ≡ false → group_is group.Exclusive gs g.name ≡ true → names ≡ and_also g.name earlier
    → may_split gs g earlier ≡ Holds names
split_next_holds gs g earlier names a b d e = three_hold (known gs g.name) (earlier g.name) (group_is group.Exclusive gs g.name) rule.UnknownGroup
    rule.GroupTwice rule.NotExclusive g.at (Holds (and_also g.name earlier)) a b d ∙ ap Holds (sym e)

-- the first premise of what holds is true
pub first_premise_held : {A : Type 0} (a : Bool) (r : Rule) (at : Spot) (v : Verdict A) (x : A) → (require a r at >> v) ≡ Holds x
    → a ≡ true
first_premise_held true r at v x e = refl
first_premise_held false r at v x e = absurd (cc)

turns_known : (gs : Groups) (xs : List NameAt) (earlier names : Names)
    → in_turn (may_split gs) xs earlier ≡ Holds names → AreKnown gs xs
turns_known gs [] earlier names e = All-nil (λ (x : NameAt). known gs x.name ≡ true)
turns_known gs (x ∷ xs) earlier names e =
    let t = first_holds (may_split gs x earlier) (in_turn (may_split gs) xs) names e in
    All-cons (λ (y : NameAt). known gs y.name ≡ true) x xs
    (first_premise_held (known gs x.name) rule.UnknownGroup x.at _ t.0 t.1)
    (turns_known gs xs t.0 names t.2)

-- the groups of a list that may be split are known
pub split_are_known : (gs : Groups) (xs : List NameAt) (t : ⊤) → may_split_all gs xs ≡ Holds t → AreKnown gs xs
split_are_known gs xs t e =
    let s = first_holds (in_turn (may_split gs) xs no_names) (λ _. fine) t e in
    turns_known gs xs no_names s.0 s.1
