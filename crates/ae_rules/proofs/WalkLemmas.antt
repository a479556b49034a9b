-- A walk to a field, and the walk to the object that has it.
use Rattle.std.proofs.Common.{◌≡◌, refl, sym, ap, ◌∙◌, List, [], ◌∷◌, ◌++◌}
use Rattle.ae_text.specs.declared.refusal.Rule.TheVariants as rule
use Rattle.ae_tree.specs.declared.tree.NameAt.{NameAt}
use Rattle.ae_rules.specs.Verdict.{Verdict, Holds, Broken, ◌>>=◌, found, in_turn}
use Rattle.ae_rules.specs.Context.{Local}
use Rattle.ae_rules.specs.Walks.{Place, step, without_last}
use Rattle.ae_rules.specs.Laws.{WalksGoByOwners}

-- nothing comes after
and_no_more : {A : Type 0} (v : Verdict A) → (v >>= λ x. Holds x) ≡ v
and_no_more (Holds x) = refl
and_no_more (Broken rule at) = refl

grouped : {A B C : Type 0} (v : Verdict A) (f : A → Verdict B) (g : B → Verdict C) → (v >>= λ x. f x >>= g)
    ≡ ((v >>= f) >>= g)
grouped (Holds x) f g = refl
grouped (Broken rule at) f g = refl

same_next : {A B : Type 0} (v : Verdict A) (f g : A → Verdict B) → ((x : A) → f x ≡ g x) → (v >>= f) ≡ (v >>= g)
same_next (Holds x) f g h = h x
same_next (Broken rule at) f g h = refl

-- the last turn comes after all others
last_turn : {A S : Type 0} (f : A → S → Verdict S) (xs : List A) (x : A) (s : S) → in_turn f (xs ++ x ∷ []) s
    ≡ (in_turn f xs s >>= f x)
last_turn f [] x s = and_no_more (f x s)
last_turn f (y ∷ ys) x s = same_next (f y s) (in_turn f (ys ++ x ∷ [])) (λ t. in_turn f ys t >>= f x)
    (λ t. last_turn f ys x t) ∙ grouped (f y s) (in_turn f ys) (f x)

but_last : {A : Type 0} (xs : List A) (x : A) → without_last (xs ++ x ∷ []) ≡ xs
but_last [] x = refl
but_last (y ∷ []) x = refl
but_last (y ∷ z ∷ zs) x = ap (λ ws. y ∷ ws) (but_last (z ∷ zs) x)

pub walks_go_by_owners : WalksGoByOwners
walks_go_by_owners p c path xs x e =
    ap along e ∙ same_next root (λ (l : Local). in_turn (step p c path.root.at) (xs ++ x ∷ []) (first l))
    (λ (l : Local). in_turn (step p c path.root.at) xs (first l) >>= step p c path.root.at x)
    (λ (l : Local). last_turn (step p c path.root.at) xs x (first l))
    ∙ grouped root (λ (l : Local). in_turn (step p c path.root.at) xs (first l)) (step p c path.root.at x)
    ∙ ap (λ (v : Verdict Place). v >>= step p c path.root.at x)
    (ap along (sym (but_last xs x) ∙ ap without_last (sym e)))
  where
    root : Verdict Local
    root = found (c.local path.root.name) rule.UnknownName path.root.at

    first : Local → Place
    first l = record { form = l.form; held = l.held }

    along : List NameAt → Verdict Place
    along ys = root >>= λ (l : Local). in_turn (step p c path.root.at) ys (first l)
