-- What a production stands for has names among the first n alone, where its tokens have.
use Rattle.std.proofs.Common.{◌<◌, inl, inr, sym, subst, ℕ, List, [], ◌∷◌, Option, None, Some}
use Rattle.std.specs.Prelude.{All}
use Rattle.std.proofs.lemmas.List.Elements.{All-nil, All-cons}
use Rattle.ae_text.specs.declared.refusal.Spot.{Spot}
use Rattle.ae_tree.specs.declared.lexeme.Lexical.{Lexical}
use Rattle.ae_tree.specs.declared.tree.NameAt.{NameAt}
use Rattle.ae_tree.specs.declared.tree.PermAt.{PermAt}
use Rattle.ae_tree.specs.declared.tree.PermAt.TheVariants as perm_at
use Rattle.ae_tree.specs.declared.tree.KindAt.{KindAt}
use Rattle.ae_tree.specs.declared.tree.KindAt.TheVariants as kind_at
use Rattle.ae_tree.specs.declared.tree.Path.{Path}
use Rattle.ae_tree.specs.declared.tree.Ty.{Ty}
use Rattle.ae_tree.specs.declared.tree.Ty.TheVariants as ty
use Rattle.ae_tree.specs.declared.tree.Me.{Me}
use Rattle.ae_tree.specs.declared.tree.Param.{Param}
use Rattle.ae_tree.specs.declared.tree.Field.{Field}
use Rattle.ae_tree.specs.declared.tree.GroupNeed.{GroupNeed}
use Rattle.ae_tree.specs.Plain.{Expression, Number, Truth, Nothing, Read, Item, Length, Grouped, Negated, Minus}
use Rattle.ae_tree.specs.Plain.{Binary, Invocation, RightSide, Value, Taken, Zeros, Made, Returned}
use Rattle.ae_tree.specs.Plain.{Action, Declares, Assigns, Stores, StoresAt, Calls, Chooses, ChoosesElse, Repeats}
use Rattle.ae_tree.specs.Plain.{Groups, Splits, Locks, Freezes, Shares, Prints, PrintsText, Asserts, Returns}
use Rattle.ae_tree.specs.Grammar.{Tokens, name, root, path_step, path, groups, permission, kind, type_}
use Rattle.ae_tree.specs.Grammar.{expression_at, whole_expression, arguments, receiver, call_written}
use Rattle.ae_tree.specs.Grammar.{right_of_equals, statement, one_by_one, further, separated, comma_list, result}
use Rattle.ae_tree.specs.Grammar.{param, parameters, need, needs, field, return_end}
use Rattle.ae_tree.specs.WellShaped.{HasNumberBelow, AreNamed, PathNamed, PermNamed, KindNamed, TypeNamed, IfThere}
use Rattle.ae_tree.specs.WellShaped.{ExpressionNamed, CallNamed, RightNamed, ActionNamed, ParamNamed, FieldNamed}
use Rattle.ae_tree.proofs.BelowLemmas.{IsBelow, EachToken, Of, head, tail, under, under_two}

-- ---- sequences

-- what each of a sequence has
pub each_has : {A : Type 0} {L : Lexical → Type 0} (D : A → Tokens → Type 0) (P : A → Type 0)
    → ((x : A) → Of L (D x) → P x) → (xs : List A) → Of L (one_by_one D xs) → All P xs
each_has D P f [] d = All-nil P
each_has D P f (x ∷ xs) d = All-cons P x xs (f x (head d)) (each_has D P f xs (tail d))

-- the same where each has a comma before it
pub further_has : {A : Type 0} {L : Lexical → Type 0} (D : A → Tokens → Type 0) (P : A → Type 0)
    → ((x : A) → Of L (D x) → P x) → (xs : List A) → Of L (one_by_one (further D) xs) → All P xs
further_has D P f = each_has (further D) P (λ x d. f x (tail d))

-- the same of at least one, with commas between them
pub separated_has : {A : Type 0} {L : Lexical → Type 0} (D : A → Tokens → Type 0) (P : A → Type 0)
    → ((x : A) → Of L (D x) → P x) → (xs : List A) → Of L (separated D xs) → All P xs
separated_has D P f [] d = absurd d.derives
separated_has D P f (x ∷ xs) d = All-cons P x xs (f x (head d)) (further_has D P f xs (tail d))

-- the same of none, or some with commas between them
pub listed_has : {A : Type 0} {L : Lexical → Type 0} (D : A → Tokens → Type 0) (P : A → Type 0)
    → ((x : A) → Of L (D x) → P x) → (xs : List A) → Of L (comma_list D xs) → All P xs
listed_has D P f [] d = All-nil P
listed_has D P f (x ∷ xs) d = separated_has D P f (x ∷ xs) d

-- ---- names, paths and types

-- a name is one of the first n
pub name_named : (n : ℕ) (x : NameAt) → Of (IsBelow n) (name x) → HasNumberBelow n x
name_named n x d = (subst (EachToken (IsBelow n)) d.derives d.each).0

root_named : (n : ℕ) (x : NameAt) → Of (IsBelow n) (root x) → HasNumberBelow n x
root_named n x d = elim d.derives [
  | inl e ↦ (subst (EachToken (IsBelow n)) e d.each).0
  | inr t ↦ subst (λ (y : ℕ). y < n) (sym t.0) (subst (EachToken (IsBelow n)) t.1 d.each).0
]

path_named : (n : ℕ) (p : Path) → Of (IsBelow n) (path p) → PathNamed n p
path_named n p d = (
  root_named n p.root (head d),
  each_has path_step (HasNumberBelow n)
      (λ x e. name_named n x (tail e)) p.steps (tail d),
)

names_named : (n : ℕ) (xs : List NameAt) → Of (IsBelow n) (separated name xs) → AreNamed n xs
names_named n xs d = separated_has name (HasNumberBelow n) (name_named n) xs d

-- the groups behind a name
pub groups_named : (n : ℕ) (gs : List NameAt) → Of (IsBelow n) (groups gs) → AreNamed n gs
groups_named n [] d = All-nil (HasNumberBelow n)
groups_named n (g ∷ gs) d = names_named n (g ∷ gs) (head (tail d))

perm_named : (n : ℕ) (q : PermAt) → Of (IsBelow n) (permission q) → PermNamed n q
perm_named n (perm_at.Unique at) d = tt
perm_named n (perm_at.Immutable at) d = tt
perm_named n (perm_at.Lent at) d = tt
perm_named n (perm_at.Shared at g) d = name_named n g (head (tail (tail d)))

kind_named : (n : ℕ) (k : KindAt) → Of (IsBelow n) (kind k) → KindNamed n k
kind_named n (kind_at.Ints at) d = tt
kind_named n (kind_at.Class c gs) d = (name_named n c (head d), groups_named n gs (tail d))

type_named : (n : ℕ) (t : Ty) → Of (IsBelow n) (type_ t) → TypeNamed n t
type_named n (ty.Int at) d = tt
type_named n (ty.Bool at) d = tt
type_named n (ty.Object q k) d = (perm_named n q (head d), kind_named n k (tail d))

-- ---- expressions and right sides

expression_named : (n : ℕ) (e : Expression) (l : ℕ) → Of (IsBelow n) (expression_at e l) → ExpressionNamed n e
expression_named n (Number i at) l d = tt
expression_named n (Truth b at) l d = tt
expression_named n (Nothing at) l d = tt
expression_named n (Read p) l d = path_named n p d
expression_named n (Item p e) l d = (path_named n p (head d), expression_named n e 0 (head (tail (tail d))))
expression_named n (Length p at) l d = path_named n p (tail d)
expression_named n (Grouped e at) l d = expression_named n e 0 (head (tail d))
expression_named n (Negated e at) l d = expression_named n e 5 (tail d)
expression_named n (Minus e at) l d = expression_named n e 5 (tail d)
expression_named n (Binary o a b) l d =
    (expression_named n a _ (head (under d)), expression_named n b _ (tail (tail (under d))))

-- the names of an expression
pub whole_named : (n : ℕ) (e : Expression) → Of (IsBelow n) (whole_expression e) → ExpressionNamed n e
whole_named n e d = expression_named n e 0 d

arguments_named : (n : ℕ) (es : List Expression) → Of (IsBelow n) (arguments es) → All (ExpressionNamed n) es
arguments_named n es d = listed_has whole_expression (ExpressionNamed n) (whole_named n) es (head (tail d))

receiver_named : (n : ℕ) (on : Option Path) → Of (IsBelow n) (receiver on) → IfThere (PathNamed n) on
receiver_named n None d = tt
receiver_named n (Some p) d = path_named n p (head d)

call_named : (n : ℕ) (c : Invocation) → Of (IsBelow n) (call_written c) → CallNamed n c
call_named n c d = (receiver_named n c.on (head d), name_named n c.method (head (tail d)), groups_named n c.groups (head (tail (tail d))), arguments_named n c.args (tail (tail (tail d))))

right_named : (n : ℕ) (e : RightSide) → Of (IsBelow n) (right_of_equals e) → RightNamed n e
right_named n (Value e) d = whole_named n e d
right_named n (Taken p at) d = path_named n p (tail (under d))
right_named n (Zeros e at) d = whole_named n e (head (tail (tail (tail d))))
right_named n (Made c gs es at) d = (
  name_named n c (head (tail d)),
  groups_named n gs (head (tail (tail d))),
  arguments_named n es
      (tail (tail (tail d))),
)
right_named n (Returned c) d = call_named n c d

-- ---- statements

-- the names of a statement, without those in its blocks
pub action_named : (n k : ℕ) (at : Spot) (a : Action) → Of (IsBelow n) (statement k at a) → ActionNamed n a
action_named n k at (Declares t x e) d = (
  type_named n t (head (tail d)),
  name_named n x (head (tail (tail d))),
  right_named n e
      (head (tail (tail (tail (tail d))))),
)
action_named n k at (Assigns x e) d = (name_named n x (head (under d)), right_named n e (head (tail (tail (under d)))))
action_named n k at (Stores p e) d =
    (path_named n p (head (under_two d)), whole_named n e (head (tail (tail (under_two d)))))
action_named n k at (StoresAt p i e) d = (
  path_named n p (head (under d)),
  whole_named n i (head (tail (tail (under d)))),
  whole_named n e
      (head (tail (tail (tail (tail (tail (under d))))))),
)
action_named n k at (Calls c) d = call_named n c (head (under d))
action_named n k at (Chooses e j b) d = whole_named n e (head (tail (under d)))
action_named n k at (ChoosesElse e j b m c) d = whole_named n e (head (tail (under_two d)))
action_named n k at (Repeats e j b) d = whole_named n e (head (tail (under d)))
action_named n k at (Groups g) d = name_named n g (head (tail d))
action_named n k at (Splits gs j b) d = names_named n gs (head (tail (under d)))
action_named n k at (Locks g j b) d = name_named n g (head (tail (under d)))
action_named n k at (Freezes x) d = name_named n x (head (tail d))
action_named n k at (Shares x g) d = (name_named n x (head (tail d)), name_named n g (head (tail (tail (tail d)))))
action_named n k at (Prints e) d = whole_named n e (head (tail d))
action_named n k at (PrintsText s) d = tt
action_named n k at (Asserts e) d = whole_named n e (head (tail d))
action_named n k at (Returns e) d = absurd d.derives

-- ---- the heads of methods, and fields

-- the names of a result
pub result_named : (n : ℕ) (t : Option Ty) → Of (IsBelow n) (result t) → IfThere (TypeNamed n) t
result_named n None d = tt
result_named n (Some t) d = type_named n t d

param_named : (n : ℕ) (x : Param) → Of (IsBelow n) (param x) → ParamNamed n x
param_named n x d = (type_named n x.ty (head d), name_named n x.name (head (tail d)))

-- the names of a receiver
pub me_named : (n : ℕ) (o : Option Me) (xs : List Param) → Of (IsBelow n) (parameters o xs)
    → IfThere (λ (x : Me). PermNamed n x.perm) o
me_named n None xs d = tt
me_named n (Some m) xs d = perm_named n m.perm (head (head d))

-- the names of the parameters
pub params_named : (n : ℕ) (o : Option Me) (xs : List Param) → Of (IsBelow n) (parameters o xs) → All (ParamNamed n) xs
params_named n None xs d = listed_has param (ParamNamed n) (param_named n) xs d
params_named n (Some m) xs d = further_has param (ParamNamed n) (param_named n) xs (tail d)

-- the groups of the needs
pub needs_named : (n : ℕ) (xs : List GroupNeed) → Of (IsBelow n) (needs xs)
    → All (λ (x : GroupNeed). HasNumberBelow n x.group) xs
needs_named n [] d = All-nil (λ (x : GroupNeed). HasNumberBelow n x.group)
needs_named n (x ∷ xs) d = separated_has need (λ (y : GroupNeed). HasNumberBelow n y.group)
    (λ y e. name_named n y.group (tail e)) (x ∷ xs) (tail d)

-- the names of a field
pub field_named : (n : ℕ) (x : Field) → Of (IsBelow n) (field x) → FieldNamed n x
field_named n x d = (type_named n x.ty (head d), name_named n x.name (head (tail d)))

-- the names of a `return`
pub returning_named : (n : ℕ) (r : Option (Spot × Expression)) → Of (IsBelow n) (return_end r)
    → IfThere (λ (x : Spot × Expression). ExpressionNamed n x.1) r
returning_named n None d = tt
returning_named n (Some r) d = whole_named n r.1 (head (tail d))
