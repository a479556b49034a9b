-- A parameter that stays is not written by the statements of its method's body.
use Rattle.std.proofs.Common.{◌≡◌, ◌≢◌, refl, sym, ap, ◌∙◌, subst, ℕ, nat_eq, Bool, true, false, ◌&&◌, ◌||◌, not}
use Rattle.std.proofs.Common.{if◌then◌else◌, Option, Some}
use Rattle.std.specs.Prelude.{option_map, is_some, is_none, length, ⊤}
use Rattle.std.proofs.lemmas.Bool.{not-true}
use Rattle.std.proofs.lemmas.Option.{same_Some}
use Rattle.ae_text.specs.declared.refusal.Spot.{Spot}
use Rattle.ae_text.specs.declared.refusal.Rule.TheVariants as rule
use Rattle.ae_tree.specs.declared.tree.NameAt.{NameAt}
use Rattle.ae_tree.specs.declared.tree.Path.{Path}
use Rattle.ae_tree.specs.declared.tree.Ty.{Ty}
use Rattle.ae_tree.specs.declared.form.Perm.TheVariants as perm
use Rattle.ae_tree.specs.declared.form.Form.{Form}
use Rattle.ae_tree.specs.declared.form.Form.TheVariants as f
use Rattle.ae_tree.specs.Form.{form}
use Rattle.ae_tree.specs.Names.{io, this}
use Rattle.ae_tree.specs.Plain.{Expression, RightSide, Lines, End, Next, Definition, Code}
use Rattle.ae_tree.specs.Plain.{Action, Declares, Assigns, Stores, StoresAt, Calls, Chooses, ChoosesElse, Repeats}
use Rattle.ae_tree.specs.Plain.{Groups, Splits, Locks, Freezes, Shares, Prints, PrintsText, Asserts, Returns}
use Rattle.ae_tree.specs.WellShaped.{EachStatement, InBlocks, ActionNamed}
use Rattle.ae_rules.specs.declared.held.Held.{Held}
use Rattle.ae_rules.specs.declared.held.Held.TheVariants as held
use Rattle.ae_rules.specs.Verdict.{Verdict, Holds, ◌>>=◌, require, found}
use Rattle.ae_rules.specs.Forms.{is_object, is_unique}
use Rattle.ae_rules.specs.Types.{forms_type}
use Rattle.ae_rules.specs.Groups.{Groups as GroupsKnown}
use Rattle.ae_rules.specs.Groups.{known}
use Rattle.ae_rules.specs.Context.{Local, Context, is_visible, holds_nothing, is_held_alone}
use Rattle.ae_rules.specs.Walks.{Place, owner, walk, owner_write_access}
use Rattle.ae_rules.specs.Expressions.{is_value}
use Rattle.ae_rules.specs.Into.{into}
use Rattle.ae_rules.specs.Calls.{me_form, judge_call}
use Rattle.ae_rules.specs.Statements.{judge_right, holds_alone, end_block, branches_meet, loop_keeps}
use Rattle.ae_rules.specs.Statements.{judge_statement, judge_lines}
use Rattle.ae_rules.specs.Judges.{Judges, local_at_start, me_local, param_local, param_called, start}
use Rattle.ae_rules.specs.Laws.{StatementsKeep}
use Rattle.ae_rules.specs.BlockLaws.{may_hold, IsRight, RightIsKept, JudgingKeepsRight}
use Rattle.ae_rules.specs.Uses.{◌∪◌, of_judged, of_found, write_use, whole_group, write_uses, value_uses, into_uses}
use Rattle.ae_rules.specs.Uses.{right_uses, statement_uses, lines_use, outside}
use Rattle.ae_soundness.specs.Whole.{SplitsNothing}
use Rattle.ae_soundness.proofs.BodyLemmas.{judged_body, text_of_body}
use Rattle.ae_soundness.proofs.FollowLemmas.{block_judged}
use Rattle.ae_changes.specs.Changes.{IsAsBefore}
use Rattle.ae_changes.specs.Stays.{StayingParametersStay}
use Rattle.ae_changes.proofs.from_rules.PathLemmas.{first_holds, mapped}
use Rattle.ae_changes.proofs.from_rules.SeenLemmas.{found_is, required}
use Rattle.ae_changes.proofs.from_text.Basics.{first_of_both, second_of_both}
use Rattle.ae_changes.proofs.ReadLemmas.{IsUnwritten, unwritten_both, unwritten_outside}
use Rattle.ae_changes.proofs.ReadLemmas.{unwritten_write, unwritten_value}
use Rattle.ae_changes.proofs.StayLemmas.{HeldElse, alone_is, write_elsewhere, unwritten_into, unwritten_call}
use Rattle.ae_changes.proofs.StayLemmas.{unwritten_right}

-- the local is there, stays, and is not unique
record Remains (p : Code) (c : Context) (x : ℕ) : Type 0 where
  right : IsRight p c
  local : Local
  is : c.local x ≡ Some local
  stays : local.stays ≡ true
  plain : is_unique local.form ≡ false

not_alone : (gs : GroupsKnown) (t : Form) → is_unique t ≡ false → may_hold gs t held.Unique ≡ true → ⊥
not_alone gs f.Int e m = cc m
not_alone gs f.Bool e m = cc m
not_alone gs (f.Object perm.Unique k) e m = cc e
not_alone gs (f.Object perm.Immutable k) e m = cc m
not_alone gs (f.Object perm.Lent k) e m = cc m
not_alone gs (f.Object (perm.Shared g) k) e m = cc m

held_else : (p : Code) (c : Context) (x : ℕ) → Remains p c x → HeldElse c x
held_else p c x z l e h =
    let same : z.local ≡ l = same_Some z.local l (sym z.is ∙ e) in
    not_alone c.group z.local.form z.plain (subst (λ (k : Held). may_hold c.group z.local.form k ≡ true)
    (ap (λ (y : Local). y.held) same ∙ h) (z.right.holds x z.local z.is))

-- ---- statements

unwritten_let : (p : Code) (c d : Context) (x : ℕ) (ty : Ty) (y : NameAt) (e : RightSide) (at : Spot) (m : Definition)
    → Remains p c x → Judges p m at (Declares ty y e) c d → IsUnwritten x (write_use y.name ∪ right_uses p c
    (form ty) e)
unwritten_let p c d x ty y e at m z h =
    let a = first_holds (forms_type p (known c.group) false ty) _ d h in
    let b = first_holds (require (not (is_visible c y.name)) rule.DuplicateLocal y.at) _ d a.2 in
    let r = first_holds (judge_right p c (form ty) e) _ d b.2 in
    let hidden : is_visible c y.name ≡ false = not-true (is_visible c y.name)
    (required (not (is_visible c y.name)) rule.DuplicateLocal y.at b.0 b.1) in
    unwritten_both x (write_use y.name) (right_uses p c (form ty) e) (unwritten_write x y.name (apart hidden))
    (unwritten_right p c r.0 x (form ty) e (held_else p c x z) r.1)
  where
    apart : is_visible c y.name ≡ false → y.name ≢ x
    apart k n =
        let none : is_visible c x ≡ false = subst (λ (v : ℕ). is_visible c v ≡ false) n k in
        let seen : is_visible c x ≡ true = ap (λ (o : Option Local). is_some o || known c.group x) z.is in
        cc (none, seen)

unwritten_assign : (p : Code) (c d : Context) (x : ℕ) (y : NameAt) (e : RightSide) (at : Spot) (m : Definition)
    → Remains p c x → Judges p m at (Assigns y e) c d
    → IsUnwritten x (write_use y.name ∪ of_found (c.local y.name) (λ (l : Local). right_uses p c l.form e))
unwritten_assign p c d x y e at m z h =
    let a = first_holds (found (c.local y.name) rule.UnknownName y.at) _ d h in
    let b = first_holds (require (not a.0.stays) rule.ParameterMoved y.at) _ d a.2 in
    let r = first_holds (judge_right p c a.0.form e) _ d b.2 in
    let there : c.local y.name ≡ Some a.0 = found_is (c.local y.name) rule.UnknownName y.at a.0 a.1 in
    let goes : a.0.stays ≡ false = not-true a.0.stays (required (not a.0.stays) rule.ParameterMoved y.at b.0 b.1) in
    unwritten_both x (write_use y.name) (of_found (c.local y.name) (λ (l : Local). right_uses p c l.form e))
    (unwritten_write x y.name (apart a.0 there goes))
    (subst (λ (o : Option Local). IsUnwritten x (of_found o (λ (l : Local). right_uses p c l.form e))) (sym there)
    (unwritten_right p c r.0 x a.0.form e (held_else p c x z) r.1))
  where
    apart : (l : Local) → c.local y.name ≡ Some l → l.stays ≡ false → y.name ≢ x
    apart l q g n =
        let here : c.local x ≡ Some l = subst (λ (v : ℕ). c.local v ≡ Some l) n q in
        let same : z.local ≡ l = same_Some z.local l (sym z.is ∙ here) in
        let stays : l.stays ≡ true = ap (λ (v : Local). v.stays) (sym same) ∙ z.stays in cc (stays, g)

unwritten_store : (p : Code) (c d : Context) (x : ℕ) (path : Path) (e : Expression) (at : Spot) (m : Definition)
    → Remains p c x → Judges p m at (Stores path e) c d
    → IsUnwritten x (write_uses p c (owner path) ∪ of_judged (walk p c path) (λ w. into_uses p c w.form e))
unwritten_store p c d x path e at m z h =
    let a = first_holds (walk p c path) _ d h in
    let b = first_holds (owner_write_access p c path) _ d a.2 in
    let r = first_holds (into p c a.0.form e) _ d b.2 in
    subst (λ (v : Verdict Place). IsUnwritten x (write_uses p c (owner path) ∪ of_judged v
    (λ w. into_uses p c w.form e)))
    (sym a.1) (unwritten_both x (write_uses p c (owner path)) (into_uses p c a.0.form e)
    (write_elsewhere p c x (owner path) (held_else p c x z))
    (unwritten_into p c x a.0.form e r.0 (held_else p c x z) r.1))

-- a local that is frozen or shared is another
other_alone : (p : Code) (c : Context) (x : ℕ) (y : NameAt) (u : ⊤) → Remains p c x → holds_alone c y ≡ Holds u
    → y.name ≢ x
other_alone p c x y u z h n =
    let a = first_holds (found (c.local y.name) rule.UnknownName y.at) _ u h in
    let b = first_holds (require (is_object a.0.form) rule.TypeMismatch y.at) _ u a.2 in
    let r = first_holds (require (not (holds_nothing a.0.held)) rule.NoPermission y.at)
    (λ _. require (is_held_alone a.0.held) rule.NeedsUnique y.at) u b.2 in
    let there : c.local y.name ≡ Some a.0 = found_is (c.local y.name) rule.UnknownName y.at a.0 a.1 in
    held_else p c x z a.0 (subst (λ (v : ℕ). c.local v ≡ Some a.0) n there)
    (alone_is a.0.held (required (is_held_alone a.0.held) rule.NeedsUnique y.at u r.2))

unwritten_returned : (p : Code) (c d : Context) (x : ℕ) (e : Expression) (at : Spot) (m : Definition) → Remains p c x
    → Judges p m at (Returns e) c d → IsUnwritten x (of_found m.result (λ t. into_uses p c (form t) e))
unwritten_returned p c d x e at m z h =
    let a = first_holds (found m.result rule.TypeMismatch at) _ d h in
    let r = first_holds (into p c (form a.0) e) _ d a.2 in
    subst (λ (o : Option Ty). IsUnwritten x (of_found o (λ t. into_uses p c (form t) e)))
    (sym (found_is m.result rule.TypeMismatch at a.0 a.1))
    (unwritten_into p c x (form a.0) e r.0 (held_else p c x z) r.1)

-- the text of a statement, and of those in its blocks
record TextOf (p : Code) (a : Action) : Type 0 where
  unsplit : SplitsNothing a × InBlocks SplitsNothing a
  names : ActionNamed (length p.names) a × InBlocks (ActionNamed (length p.names)) a

-- the laws
record Keeping (p : Code) (m : Definition) : Type 0 where
  keep : StatementsKeep
  method : RightIsKept p m

later_remains : (p : Code) (m : Definition) (at : Spot) (a : Action) (c d : Context) (x : ℕ) → Keeping p m → TextOf p a
    → Judges p m at a c d → Remains p c x → Remains p d x
later_remains p m at a c d x g w h z =
    let k = (g.keep p m at a c d h).local x z.local z.is in
    record {
      right = g.method.statement at a c d w.names.0 w.names.1 z.right h;
      local = record z.local { held = k.0 };
      is = k.1;
      stays = z.stays;
      plain = z.plain;
    }

mutual
  unwritten_statement : (p : Code) (m : Definition) (at : Spot) (a : Action) (c d : Context) (x : ℕ) → Keeping p m
      → TextOf p a → Judges p m at a c d → Remains p c x → IsUnwritten x (statement_uses p m a c)
  unwritten_statement p m at (Declares ty y e) c d x g w h z = (unwritten_let) p c d x ty y e at m z h
  unwritten_statement p m at (Assigns y e) c d x g w h z = (unwritten_assign) p c d x y e at m z h
  unwritten_statement p m at (Stores path e) c d x g w h z = (unwritten_store) p c d x path e at m z h
  unwritten_statement p m at (StoresAt path i e) c d x g w h z =
      unwritten_both x (write_uses p c path) (value_uses p c i ∪ value_uses p c e)
      (write_elsewhere p c x path ((held_else) p c x z))
      (unwritten_both x (value_uses p c i) (value_uses p c e) (unwritten_value p c x i) (unwritten_value p c x e))
  unwritten_statement p m at (Calls i) c d x g w h z =
      let a = first_holds (judge_call p c i) _ d h in unwritten_call p c x i a.0 ((held_else) p c x z) a.1
  unwritten_statement p m at (Chooses e n b) c d x g w h z =
      let a = first_holds (is_value p c f.Bool e) _ d h in
      let q = first_holds (judge_lines p m b c >>= end_block p c b) (λ y. branches_meet p c at y c) d a.2 in
      let r = block_judged p m b c c q.0 q.1 in
      unwritten_both x (value_uses p c e) (outside c (lines_use p m b c)) (unwritten_value p c x e)
      (unwritten_outside x c (lines_use p m b c) (unwritten_lines p m b c r.0 x g w.unsplit.1 w.names.1 r.1 z))
  unwritten_statement p m at (ChoosesElse e n b j b') c d x g w h z =
      let a = first_holds (is_value p c f.Bool e) _ d h in
      let q = first_holds (judge_lines p m b c >>= end_block p c b) _ d a.2 in
      let q' = first_holds (judge_lines p m b' c >>= end_block p c b') (branches_meet p c at q.0) d q.2 in
      let r = block_judged p m b c c q.0 q.1 in
      let r' = block_judged p m b' c c q'.0 q'.1 in
      unwritten_both x (value_uses p c e) (outside c (lines_use p m b c) ∪ outside c (lines_use p m b' c))
      (unwritten_value p c x e) (unwritten_both x (outside c (lines_use p m b c)) (outside c (lines_use p m b' c))
      (unwritten_outside x c (lines_use p m b c) (unwritten_lines p m b c r.0 x g w.unsplit.1.0 w.names.1.0 r.1 z))
      (unwritten_outside x c (lines_use p m b' c) (unwritten_lines p m b' c r'.0 x g w.unsplit.1.1 w.names.1.1 r'.1 z)))
  unwritten_statement p m at (Repeats e n b) c d x g w h z =
      let a = first_holds (is_value p c f.Bool e) _ d h in
      let q = first_holds (judge_lines p m b c >>= end_block p c b) (loop_keeps p c at) d a.2 in
      let r = block_judged p m b c c q.0 q.1 in
      unwritten_both x (value_uses p c e) (outside c (lines_use p m b c)) (unwritten_value p c x e)
      (unwritten_outside x c (lines_use p m b c) (unwritten_lines p m b c r.0 x g w.unsplit.1 w.names.1 r.1 z))
  unwritten_statement p m at (Groups y) c d x g w h z = refl
  unwritten_statement p m at (Splits gs n b) c d x g w h z = absurd (w.unsplit.0)
  unwritten_statement p m at (Locks y n b) c d x g w h z = absurd (w.unsplit.0)
  unwritten_statement p m at (Freezes y) c d x g w h z =
      let a = first_holds (holds_alone c y) _ d h in unwritten_write x y.name ((other_alone) p c x y a.0 z a.1)
  unwritten_statement p m at (Shares y q) c d x g w h z =
      let a = first_holds (holds_alone c y) _ d h in
      unwritten_both x (write_use y.name) (whole_group q.name) (unwritten_write x y.name
      ((other_alone) p c x y a.0 z a.1)) refl
  unwritten_statement p m at (Prints e) c d x g w h z =
      unwritten_both x (value_uses p c e) (whole_group io) (unwritten_value p c x e) refl
  unwritten_statement p m at (PrintsText text) c d x g w h z = refl
  unwritten_statement p m at (Asserts e) c d x g w h z = unwritten_value p c x e
  unwritten_statement p m at (Returns e) c d x g w h z = (unwritten_returned) p c d x e at m z h

  unwritten_lines : (p : Code) (m : Definition) (b : Lines) (c d : Context) (x : ℕ) → Keeping p m
      → EachStatement SplitsNothing b → EachStatement (ActionNamed (length p.names)) b → judge_lines p m b c ≡ Holds d
      → Remains p c x → IsUnwritten x (lines_use p m b c)
  unwritten_lines p m End c d x g u w h z = refl
  unwritten_lines p m (Next at a b) c d x g u w h z =
      let r = first_holds (judge_statement p m at a c) (judge_lines p m b) d h in
      let text : TextOf p a = record { unsplit = (u.0, u.1); names = (w.0, w.1) } in
      subst (λ (v : Verdict Context). IsUnwritten x (statement_uses p m a c ∪ of_judged v (lines_use p m b))) (sym r.1)
      (unwritten_both x (statement_uses p m a c) (lines_use p m b r.0)
      (unwritten_statement p m at a c r.0 x g text r.1 z)
      (unwritten_lines p m b r.0 d x g u.2 w.2 r.2 ((later_remains) p m at a c r.0 x g text r.1 z)))

-- ---- parameters

plain_at_start : (t : Form) (away : Option Spot) → (local_at_start t away).stays ≡ true → is_unique t ≡ false
plain_at_start t away e = not-true (is_unique t)
    (second_of_both (is_object t) (not (is_unique t))
    (first_of_both (is_object t && not (is_unique t)) (is_none away) e))

parameter_plain : (p : Code) (m : Definition) (x : ℕ) (l : Local) → (start p m).local x ≡ Some l → l.stays ≡ true
    → is_unique l.form ≡ false
parameter_plain p m x l e s = by_name (nat_eq this x) e
  where
    by_name : (b : Bool)
        → (if b then option_map (me_local p m) m.me else option_map param_local (param_called m.params x)) ≡ Some l
        → is_unique l.form ≡ false
    by_name true i =
        let r = mapped (me_local p m) m.me l i in
        subst (λ (y : Local). y.stays ≡ true → is_unique y.form ≡ false) r.2 (plain_at_start
        (me_form p m r.0) r.0.away) s
    by_name false i =
        let r = mapped param_local (param_called m.params x) l i in
        subst (λ (y : Local). y.stays ≡ true → is_unique y.form ≡ false) r.2 (plain_at_start (form r.0.ty) r.0.away) s

-- A parameter that stays is as before after the body of its method.
pub staying_parameters_stay : StatementsKeep → JudgingKeepsRight → StayingParametersStay
staying_parameters_stay keep law p w a u number m e s t h x l is stays =
    let j = judged_body p number m a e in
    let r : RightIsKept p m = law p w number m e in
    let text = text_of_body p number m w u e in
    let stays_so : IsUnwritten x (lines_use p m m.body (start p m)) = unwritten_lines p m m.body (start p m) j.0 x
    (record { keep = keep; method = r }) text.0 text.2 j.1 (record {
      right = r.first;
      local = l;
      is = is;
      stays = stays;
      plain = parameter_plain p m x l is stays;
    }) in
    subst (λ (b : Bool). IsAsBefore b (s.locals x) (t.locals x)) (ap is_some is)
    (h.local x (unwritten_outside x (start p m) (lines_use p m m.body (start p m)) stays_so))
