-- The limits of a program do not see places.
use Rattle.std.proofs.Common.{◌≡◌, ◌≤◌, ℕ, ◌+◌, ◌-◌, List, [], ◌∷◌, length, map, All, Option, None, Some, refl, sym}
use Rattle.std.proofs.Common.{ap, ap₂, subst}
use Rattle.std.proofs.lemmas.List.{length-map}
use Rattle.std.proofs.lemmas.List.Elements.{All-nil, All-cons, All-head, All-tail}
use Rattle.ae_tree.specs.declared.limits.Limit.{Limit}
use Rattle.ae_tree.specs.declared.limits.Limit.TheVariants as limit
use Rattle.ae_tree.specs.declared.tree.Me.{Me}
use Rattle.ae_tree.specs.Plain.{Expression, Number, Truth, Nothing, Read, Item, Length, Grouped, Negated, Minus}
use Rattle.ae_tree.specs.Plain.{Binary, RightSide, Value, Taken, Zeros, Made, Returned, Lines, End, Next, Definition}
use Rattle.ae_tree.specs.Plain.{Code}
use Rattle.ae_tree.specs.Plain.{Action, Declares, Assigns, Stores, StoresAt, Calls, Chooses, ChoosesElse, Repeats}
use Rattle.ae_tree.specs.Plain.{Groups, Splits, Locks, Freezes, Shares, Prints, PrintsText, Asserts, Returns}
use Rattle.ae_tree.specs.Limits.{marks, KeepsDepth, AllKeepDepth, KeepsRight, statement_count, IsFew, Opens, KeepsIn}
use Rattle.ae_tree.specs.Limits.{EachKeeps, one_for, HasFewParams, KeepsMethod, KeepsTo, Within}
use Rattle.ae_layout.specs.Places.{optional, unplaced_name, unplaced_expression, unplaced_right, unplaced_action}
use Rattle.ae_layout.specs.Places.{unplaced_lines, unplaced_me, unplaced_param, unplaced_method, unplaced}

-- each says the other
abbrev Same : Type 0 → Type 0 → Type 0
Same A B = (A → B) × (B → A)

same_it : (A : Type 0) → Same A A
same_it A = (λ a. a, λ a. a)

same_pair : {A B C D : Type 0} → Same A B → Same C D → Same (A × C) (B × D)
same_pair s r = (λ p. (s.0 p.0, r.0 p.1), λ p. (s.1 p.0, r.1 p.1))

same_three : {A B C D E F : Type 0} → Same A B → Same C D → Same E F → Same (A × C × E) (B × D × F)
same_three s r q = (λ p. (s.0 p.0, r.0 p.1, q.0 p.2), λ p. (s.1 p.0, r.1 p.1, q.1 p.2))

same_four : {A B C D E F G H : Type 0} → Same A B → Same C D → Same E F → Same G H
    → Same (A × C × E × G) (B × D × F × H)
same_four s r q t = (λ p. (s.0 p.0, r.0 p.1, q.0 p.2, t.0 p.3), λ p. (s.1 p.0, r.1 p.1, q.1 p.2, t.1 p.3))

same_five : {A B C D E F G H I J : Type 0} → Same A B → Same C D → Same E F → Same G H → Same I J
    → Same (A × C × E × G × I) (B × D × F × H × J)
same_five s r q t u = (
  λ p. (s.0 p.0, r.0 p.1, q.0 p.2, t.0 p.3, u.0 p.4),
  λ p. (s.1 p.0, r.1 p.1, q.1 p.2, t.1 p.3, u.1 p.4),
)

same_at : {A : Type 0} (P : A → Type 0) (x y : A) → x ≡ y → Same (P x) (P y)
same_at P x y e = (subst P e, subst P (sym e))

same_all : {A B : Type 0} (f : A → B) (P : B → Type 0) (Q : A → Type 0) → ((x : A) → Same (P (f x)) (Q x))
    → (xs : List A) → Same (All P (map f xs)) (All Q xs)
same_all f P Q s [] = (λ h. All-nil Q, λ h. All-nil P)
same_all f P Q s (x ∷ xs) =
    let r = same_all f P Q s xs in (
      λ h. All-cons Q x xs ((s x).0 (All-head P (f x) (map f xs) h)) (r.0 (All-tail P (f x) (map f xs) h)),
      λ h. All-cons P (f x) (map f xs) ((s x).1 (All-head Q x xs h)) (r.1 (All-tail Q x xs h)),
    )

marks_same : (e : Expression) → marks (unplaced_expression e) ≡ marks e
marks_same (Number n at) = refl
marks_same (Truth b at) = refl
marks_same (Nothing at) = refl
marks_same (Read p) = length-map p.steps unplaced_name
marks_same (Item p e) = ap₂ (λ n m. n + 1 + m) (length-map p.steps unplaced_name) (marks_same e)
marks_same (Length p at) = ap (λ n. 1 + n) (length-map p.steps unplaced_name)
marks_same (Grouped e at) = ap (λ n. 1 + n) (marks_same e)
marks_same (Negated e at) = ap (λ n. 1 + n) (marks_same e)
marks_same (Minus e at) = ap (λ n. 1 + n) (marks_same e)
marks_same (Binary op a b) = ap₂ (λ n m. n + 1 + m) (marks_same a) (marks_same b)

keeps_same : (l : Limit) (e : Expression) → Same (KeepsDepth l (unplaced_expression e)) (KeepsDepth l e)
keeps_same limit.Depth e = same_at (λ n. n ≤ 256) (marks (unplaced_expression e)) (marks e) (marks_same e)
keeps_same limit.Statements e = same_it _
keeps_same limit.Levels e = same_it _
keeps_same limit.Params e = same_it _

all_same : (l : Limit) (es : List Expression) → Same (AllKeepDepth l (map unplaced_expression es)) (AllKeepDepth l es)
all_same l es = same_all unplaced_expression (KeepsDepth l) (KeepsDepth l) (keeps_same l) es

right_same : (l : Limit) (r : RightSide) → Same (KeepsRight l (unplaced_right r)) (KeepsRight l r)
right_same l (Value e) = keeps_same l e
right_same l (Taken p at) = same_it _
right_same l (Zeros e at) = keeps_same l e
right_same l (Made c gs es at) = all_same l es
right_same l (Returned c) = all_same l c.args

count_same : (b : Lines) → statement_count (unplaced_lines b) ≡ statement_count b
count_same End = refl
count_same (Next at a rest) = ap (λ n. n + 1) (count_same rest)

few_same : (l : Limit) (b : Lines) → Same (IsFew l (unplaced_lines b)) (IsFew l b)
few_same limit.Statements b = same_at (λ n. n ≤ 1024) (statement_count (unplaced_lines b)) (statement_count b)
    (count_same b)
few_same limit.Depth b = same_it _
few_same limit.Levels b = same_it _
few_same limit.Params b = same_it _

mutual
  in_same : (l : Limit) (n : ℕ) (a : Action) → Same (KeepsIn l n (unplaced_action a)) (KeepsIn l n a)
  in_same l n (Declares y x r) = right_same l r
  in_same l n (Assigns x r) = right_same l r
  in_same l n (Stores p e) = keeps_same l e
  in_same l n (StoresAt p i e) = same_pair (keeps_same l i) (keeps_same l e)
  in_same l n (Calls c) = all_same l c.args
  in_same l n (Chooses e k b) = same_four (keeps_same l e) (same_it (Opens l n)) (few_same l b) (each_same l (n - 1) b)
  in_same l n (ChoosesElse e k b m c)
      = same_five (keeps_same l e) (same_it (Opens l n)) (same_pair (few_same l b) (each_same l (n - 1) b))
      (few_same l c) (each_same l (n - 1) c)
  in_same l n (Repeats e k b) = same_four (keeps_same l e) (same_it (Opens l n)) (few_same l b) (each_same l (n - 1) b)
  in_same l n (Groups g) = same_it _
  in_same l n (Splits gs k b) = same_three (same_it (Opens l n)) (few_same l b) (each_same l (n - 1) b)
  in_same l n (Locks g k b) = same_three (same_it (Opens l n)) (few_same l b) (each_same l (n - 1) b)
  in_same l n (Freezes x) = same_it _
  in_same l n (Shares x g) = same_it _
  in_same l n (Prints e) = keeps_same l e
  in_same l n (PrintsText s) = same_it _
  in_same l n (Asserts e) = keeps_same l e
  in_same l n (Returns e) = keeps_same l e

  each_same : (l : Limit) (n : ℕ) (b : Lines) → Same (EachKeeps l n (unplaced_lines b)) (EachKeeps l n b)
  each_same l n End = same_it _
  each_same l n (Next at a rest) = same_pair (in_same l n a) (each_same l n rest)

one_same : (m : Option Me) → one_for (optional unplaced_me m) ≡ one_for m
one_same None = refl
one_same (Some m) = refl

params_same : (l : Limit) (m : Definition) → Same (HasFewParams l (unplaced_method m)) (HasFewParams l m)
params_same limit.Params m = same_at (λ n. n ≤ 16) _ (one_for m.me + length m.params)
    (ap₂ (λ n k. n + k) (one_same m.me) (length-map m.params unplaced_param))
params_same limit.Statements m = same_it _
params_same limit.Levels m = same_it _
params_same limit.Depth m = same_it _

method_same : (l : Limit) (m : Definition) → Same (KeepsMethod l (unplaced_method m)) (KeepsMethod l m)
method_same l m = same_pair (params_same l m) (same_pair (few_same l m.body) (each_same l 63 m.body))

program_same : (l : Limit) (p : Code) → Same (KeepsTo l (unplaced p)) (KeepsTo l p)
program_same l p = same_all unplaced_method (KeepsMethod l) (KeepsMethod l) (method_same l) p.methods

-- a program that is the same but for places is within the same limits
pub within_same : (p q : Code) → unplaced q ≡ unplaced p → Within p → Within q
within_same p q e w l =
    let P : Code → Type 0 = KeepsTo l in
    (program_same l q).0 (subst P (sym e) ((program_same l p).1 (w l)))
