-- What each form of a statement begins with.
use Rattle.std.proofs.Common.{◌≡◌, ℕ, ◌++◌, List, [], ◌∷◌, ◌⊎◌, inl, inr, Bool, true, false, Option, Some, None}
use Rattle.std.proofs.Common.{refl, sym, ap, ◌∙◌, append_assoc, append-nil, subst}
use Rattle.ae_text.specs.declared.refusal.Spot.{Spot}
use Rattle.ae_text.specs.declared.token.Keyword.TheVariants as word
use Rattle.ae_tree.specs.declared.lexeme.Lexeme.{Lexeme}
use Rattle.ae_tree.specs.declared.lexeme.Lexical.{Lexical}
use Rattle.ae_tree.specs.declared.lexeme.Lexical.TheVariants as tok
use Rattle.ae_tree.specs.declared.tree.NameAt.{NameAt}
use Rattle.ae_tree.specs.declared.tree.Path.{Path}
use Rattle.ae_tree.specs.declared.tree.Ty.{Ty}
use Rattle.ae_tree.specs.Plain.{Expression, RightSide, Lines}
use Rattle.ae_tree.specs.Plain.{Action, Declares, Assigns, Stores, StoresAt, Calls, Chooses, ChoosesElse, Repeats}
use Rattle.ae_tree.specs.Plain.{Groups, Splits, Locks, Freezes, Shares, Prints, PrintsText, Asserts, Returns}
use Rattle.ae_tree.specs.Grammar.{Tokens, Then, ◌⨾◌, one_at, name, root, path_step, path, receiver, statement}
use Rattle.ae_reading.specs.Reads.{head, Is}
use Rattle.ae_statements.proofs.from_reading.ReadsLemmas.{NoneAt}
use Rattle.ae_statements.proofs.from_reading.Runs.{each-append, each-one}
use Rattle.ae_statements.specs.Productions as productions
use Rattle.ae_statements.specs.Productions.{stmt}
use Rattle.ae_statements.proofs.UniqueRightSides.{joined}

-- ---- calls as paths

regroup : (a b c d : Tokens) → (a ++ b) ++ (c ++ d) ≡ (a ++ (b ++ c)) ++ d
regroup a b c d = append_assoc a b (c ++ d) ∙ ap (λ l. a ++ l) (sym (append_assoc b c d))
    ∙ sym (append_assoc a (b ++ c) d)

pub path_more : (p : Path) (m : NameAt) (us vs : Tokens) → path p us → path_step m vs
    → path (record { root = p.root; steps = p.steps ++ m ∷ [] }) (us ++ vs)
path_more p m us vs d s = record {
  front = d.front;
  back = d.back ++ vs;
  parts = ap (λ l. l ++ vs) d.parts ∙ append_assoc d.front d.back vs;
  first = d.first;
  second = each-append path_step p.steps (m ∷ []) d.back vs d.second (each-one path_step m vs s);
}

-- a call begins with its path
pub call_path : {q : Tokens → Type 0} (on : Option Path) (m : NameAt) (us : Tokens) → (receiver on ⨾ name m ⨾ q) us
    → (path (joined on m) ⨾ q) us
call_path None m us d = record {
  front = d.second.front;
  back = d.second.back;
  parts = d.parts ∙ ap (λ l. l ++ d.back) d.first ∙ d.second.parts;
  first = record {
    front = d.second.front;
    back = [];
    parts = sym (append-nil d.second.front);
    first =
        inl d.second.first;
    second = refl;
  };
  second = d.second.second;
}
call_path (Some p) m us d = record {
  front = d.first.front ++ (d.first.back ++ d.second.front);
  back = d.second.back;
  parts = d.parts ∙ ap (λ l. l ++ d.back) d.first.parts
      ∙ ap (λ l. (d.first.front ++ d.first.back) ++ l) d.second.parts
      ∙ regroup d.first.front d.first.back d.second.front d.second.back;
  first = path_more p m d.first.front (d.first.back ++ d.second.front) d.first.first
      (record {
        front = d.first.back;
        back = d.second.front;
        parts = refl;
        first = d.first.second;
        second =
            d.second.first;
      });
  second = d.second.second;
}

-- ---- forms

-- the statements that begin with a path
abbrev pub is_led : Action → Bool
is_led (Assigns x e) = true
is_led (Stores p e) = true
is_led (StoresAt p i e) = true
is_led (Calls c) = true
is_led a = false

-- what a statement is that begins with a token of this kind
abbrev pub Formed : Lexical → Action → Type 0
Formed (tok.Word word.Let) a = (t : Ty) × (x : NameAt) × (e : RightSide) × (a ≡ Declares t x e)
Formed (tok.Word word.If) a = ((e : Expression) × (k : ℕ) × (b : Lines) × (a ≡ Chooses e k b))
    ⊎ ((e : Expression) × (k : ℕ) × (b : Lines) × (m : ℕ) × (c : Lines) × (a ≡ ChoosesElse e k b m c))
Formed (tok.Word word.While) a = (e : Expression) × (k : ℕ) × (b : Lines) × (a ≡ Repeats e k b)
Formed (tok.Word word.Group) a = (g : NameAt) × (a ≡ Groups g)
Formed (tok.Word word.Split) a = (gs : List NameAt) × (k : ℕ) × (b : Lines) × (a ≡ Splits gs k b)
Formed (tok.Word word.Atomic) a = (g : NameAt) × (k : ℕ) × (b : Lines) × (a ≡ Locks g k b)
Formed (tok.Word word.Freeze) a = (x : NameAt) × (a ≡ Freezes x)
Formed (tok.Word word.Share) a = (x : NameAt) × (g : NameAt) × (a ≡ Shares x g)
Formed (tok.Word word.Print) a = ((e : Expression) × (a ≡ Prints e)) ⊎ ((s : List ℕ) × (a ≡ PrintsText s))
Formed (tok.Word word.Assert) a = (e : Expression) × (a ≡ Asserts e)
Formed (tok.Word word.This) a = is_led a ≡ true
Formed (tok.Name n) a = is_led a ≡ true
Formed k a = ⊥

pub record Form (a : Action) (us r : Tokens) : Type 0 where
  pub token : Lexeme
  pub front : head (us ++ r) ≡ Some token
  pub form : Formed token.kind a
  pub begins : productions.Begins (Some token)

at_first : {k : Lexical} {at : Spot} {q : Tokens → Type 0} (a : Action) (us r : Tokens) → Then (one_at k at) q us
    → Formed k a → productions.Begins (Some (record { kind = k; at = at })) → Form a us r
at_first {k} {at} a us r d form begins =
    record {
      token = record { kind = k; at = at };
      front = ap (λ l. head (l ++ r))
          (d.parts ∙ ap (λ l. l ++ d.back) d.first);
      form = form;
      begins = begins;
    }

at_root : (x : NameAt) (a : Action) (us r : Tokens) → root x us → is_led a ≡ true → Form a us r
at_root x a us r (inl d) led =
    record {
      token = record { kind = tok.Name x.name; at = x.at };
      front = ap (λ l. head (l ++ r)) d;
      form =
          led;
      begins = inr (inr (inl (x.name, refl)));
    }
at_root x a us r (inr d) led =
    record {
      token = record { kind = tok.Word word.This; at = x.at };
      front = ap (λ l. head (l ++ r)) d.1;
      form =
          led;
      begins = inr (inr (inr refl));
    }

in_front : {p q : Tokens → Type 0} (a : Action) (us r : Tokens) (d : Then p q us) → Form a d.front (d.back ++ r)
    → Form a us r
in_front a us r d f = record {
  token = f.token;
  front =
      ap head (ap (λ l. l ++ r) d.parts ∙ append_assoc d.front d.back r) ∙ f.front;
  form = f.form;
  begins = f.begins;
}

at_path : {q : Tokens → Type 0} (p : Path) (a : Action) (us r : Tokens) → (path p ⨾ q) us → is_led a ≡ true
    → Form a us r
at_path p a us r d led = in_front a us r d
    (in_front a d.front (d.back ++ r) d.first
    (at_root p.root a d.first.front (d.first.back ++ (d.back ++ r)) d.first.first led))

pub form_of : (n : ℕ) (at : Spot) (a : Action) (us r : Tokens) → statement n at a us → Form a us r
form_of n at (Declares t x e) us r d = at_first (Declares t x e) us r d (t, x, e, refl) (inr (inl (inl refl)))
form_of n at (Assigns x e) us r d = in_front (Assigns x e) us r d.1
    (at_root x (Assigns x e) d.1.front (d.1.back ++ r) (inl d.1.first) refl)
form_of n at (Stores p e) us r d = at_path p (Stores p e) us r d.2 refl
form_of n at (StoresAt p i e) us r d = at_path p (StoresAt p i e) us r d.1 refl
form_of n at (Calls c) us r d = in_front (Calls c) us r d.1
    (at_path (joined c.on c.method) (Calls c) d.1.front (d.1.back ++ r) (call_path c.on c.method d.1.front d.1.first)
    refl)
form_of n at (Chooses e k b) us r d = at_first (Chooses e k b) us r d.1 (inl (e, k, b, refl)) (inl (inl refl))
form_of n at (ChoosesElse e k b m c) us r d = at_first (ChoosesElse e k b m c) us r d.2 (inr (e, k, b, m, c, refl))
    (inl (inl refl))
form_of n at (Repeats e k b) us r d = at_first (Repeats e k b) us r d.1 (e, k, b, refl) (inl (inr (inl refl)))
form_of n at (Groups g) us r d = at_first (Groups g) us r d (g, refl) (inr (inl (inr (inl refl))))
form_of n at (Splits gs k b) us r d = at_first (Splits gs k b) us r d.1 (gs, k, b, refl) (inl (inr (inr (inl refl))))
form_of n at (Locks g k b) us r d = at_first (Locks g k b) us r d.1 (g, k, b, refl) (inl (inr (inr (inr refl))))
form_of n at (Freezes x) us r d = at_first (Freezes x) us r d (x, refl) (inr (inl (inr (inr (inl refl)))))
form_of n at (Shares x g) us r d = at_first (Shares x g) us r d (x, g, refl) (inr (inl (inr (inr (inr (inl refl))))))
form_of n at (Prints e) us r d = at_first (Prints e) us r d (inl (e, refl))
    (inr (inl (inr (inr (inr (inr (inl refl)))))))
form_of n at (PrintsText s) us r d = at_first (PrintsText s) us r d (inr (s, refl))
    (inr (inl (inr (inr (inr (inr (inl refl)))))))
form_of n at (Asserts e) us r d = at_first (Asserts e) us r d (e, refl) (inr (inl (inr (inr (inr (inr (inr refl)))))))
form_of n at (Returns e) us r d = absurd d

formed_at : (k : Lexical) (t : Lexeme) (a : Action) → t.kind ≡ k → Formed t.kind a → Formed k a
formed_at k t a e f = let P : Lexical → Type 0 = λ j. Formed j a in subst P e f

-- a statement has a form of the next token
pub formed : (k : Lexical) (n : ℕ) (y : Spot × Action) (us r ts : Tokens) → stmt n y us → head (us ++ r) ≡ head ts
    → Is k (head ts) → Formed k y.1
formed k n y us r ts d h is =
    let f = form_of n y.0 y.1 us r d in
    let P : Option Lexeme → Type 0 = Is k
    in formed_at k f.token y.1 (subst P (sym h ∙ f.front) is) f.form

-- where the next token begins no statement, there is none
pub no_stmt : (n : ℕ) (ts : Tokens) → (productions.Begins (head ts) → ⊥) → NoneAt (stmt n) ts
no_stmt n ts none y us r d h =
    let f = form_of n y.0 y.1 us r d in
    let P : Option Lexeme → Type 0 = productions.Begins in
    none (subst P (sym f.front ∙ h) f.begins)
