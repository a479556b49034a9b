-- A text has one fault, or tokens.
use Rattle.std.proofs.Common.{◌≡◌, ℕ, pos, IsTrue, List, [], ◌∷◌, ◌++◌, length, ◌⊎◌, inl, inr, refl, sym, ap, ◌∙◌}
use Rattle.std.proofs.Common.{subst, append_assoc, append-nil}
use Rattle.std.proofs.Math.Seq.{take-length}
use Rattle.std.specs.Str.{IsUtf8, IsValidUpTo}
use Rattle.std.proofs.lemmas.Str.{encodes_same, utf8_valid_len-IsValidUpTo}
use Rattle.ae_text.specs.declared.refusal.Rule.{Rule}
use Rattle.ae_text.specs.declared.refusal.Rule.TheVariants as rule
use Rattle.ae_text.specs.declared.token.Token.{Token}
use Rattle.ae_text.specs.declared.token.TokenKind.TheVariants as t
use Rattle.ae_text.specs.Tokens.{Text, width, is_digit, IsNumber, digits_value, TextPiece, text_of, ArePieces}
use Rattle.ae_text.specs.Tokens.{IsNothing, IsTooLarge, IsOpen, IsBadEscape, IsFault, Lexes, CutFault, LexFault}
use Rattle.ae_text.proofs.QuoteLemmas.{bad_same, bad_no_open}
use Rattle.ae_text.proofs.CutLemmas.{cuttings, NoPiece, fault_no_piece, fault_refuses}
use Rattle.ae_text.proofs.TextLemmas.{first_is}

-- the four kinds of faults
pub data Kind (r : Rule) (before rest : Text) : Type 0 where
  Nothing : r ≡ rule.BadChar → before ≡ [] → IsNothing rest → Kind r before rest
  Bad : r ≡ rule.BadChar → IsBadEscape before rest → Kind r before rest
  Large : r ≡ rule.IntTooLarge → before ≡ [] → IsTooLarge rest → Kind r before rest
  Open : r ≡ rule.OpenText → before ≡ [] → IsOpen rest → Kind r before rest

kind_of : (r : Rule) (before rest : Text) → IsFault r before rest → Kind r before rest
kind_of rule.BadChar before rest (inl f) = Nothing refl f.0 f.1
kind_of rule.BadChar before rest (inr f) = Bad refl f
kind_of rule.IntTooLarge before rest f = Large refl f.0 f.1
kind_of rule.OpenText before rest f = Open refl f.0 f.1
kind_of _ before rest f = absurd f

-- ---- two kinds do not stand at one text

quote_some : (before rest : Text) → IsBadEscape before rest → (r : Text) × (before ++ rest ≡ 34 ∷ r)
quote_some before rest b = (_, ap (λ w. w ++ rest) b.front)

nothing_no_quote : (rest r : Text) → IsNothing rest → rest ≡ 34 ∷ r → ⊥
nothing_no_quote [] r n e = n
nothing_no_quote (c ∷ rest) r n e = n.1 (first_is c 34 rest r e)

digits_no_quote : (s after r : Text) → IsNumber s → s ++ after ≡ 34 ∷ r → ⊥
digits_no_quote [] after r n e = n
digits_no_quote (d ∷ s) after r n e =
    let P : ℕ → Type 0 = λ x. IsTrue (is_digit x) in
    let no_digit : IsTrue (is_digit 34) = subst P (first_is d 34 (s ++ after) r e) n.0 in cc

large_no_quote : (rest r : Text) → IsTooLarge rest → rest ≡ 34 ∷ r → ⊥
large_no_quote rest r l e = digits_no_quote l.digits l.after r l.number (sym l.parts ∙ e)

nothing_no_large : (rest : Text) → IsNothing rest → IsTooLarge rest → ⊥
nothing_no_large [] n l = n
nothing_no_large (c ∷ rest) n l = n.3 (t.Int (pos (digits_value l.digits))) l.digits l.after l.parts (l.number, refl)

abbrev Same : Rule → Rule → Text → Text → Type 0
Same r q b c = (r ≡ q) × (b ≡ c)

-- where a fault has nothing before it, its text is what is left
here : (before rest : Text) → before ≡ [] → before ++ rest ≡ rest
here before rest e = ap (λ w. w ++ rest) e

kinds_same : (r q : Rule) (b x c y : Text) → Kind r b x → Kind q c y → b ++ x ≡ c ++ y → Same r q b c
kinds_same r q b x c y (Nothing i e n) (Nothing j f m) w = (i ∙ sym j, e ∙ sym f)
kinds_same r q b x c y (Nothing i e n) (Bad j m) w = let z = quote_some c y m in absurd
    (nothing_no_quote x z.0 n (sym (here b x e) ∙ w ∙ z.1))
kinds_same r q b x c y (Nothing i e n) (Large j f m) w = let P : Text
    → Type 0 = IsTooLarge in absurd (nothing_no_large x n (subst P (sym (here c y f) ∙ sym w ∙ here b x e) m))
kinds_same r q b x c y (Nothing i e n) (Open j f m) w =
    absurd (nothing_no_quote x _ n (sym (here b x e) ∙ w ∙ here c y f ∙ m.parts))
kinds_same r q b x c y (Bad i n) (Nothing j f m) w = let z = quote_some b x n in absurd
    (nothing_no_quote y z.0 m (sym (here c y f) ∙ sym w ∙ z.1))
kinds_same r q b x c y (Bad i n) (Bad j m) w = (i ∙ sym j, bad_same b x c y n m w)
kinds_same r q b x c y (Bad i n) (Large j f m) w = let z = quote_some b x n in absurd
    (large_no_quote y z.0 m (sym (here c y f) ∙ sym w ∙ z.1))
kinds_same r q b x c y (Bad i n) (Open j f m) w = absurd (bad_no_open b x y n m (w ∙ here c y f))
kinds_same r q b x c y (Large i e n) (Nothing j f m) w = let P : Text
    → Type 0 = IsTooLarge in absurd (nothing_no_large y m (subst P (sym (here b x e) ∙ w ∙ here c y f) n))
kinds_same r q b x c y (Large i e n) (Bad j m) w = let z = quote_some c y m in absurd
    (large_no_quote x z.0 n (sym (here b x e) ∙ w ∙ z.1))
kinds_same r q b x c y (Large i e n) (Large j f m) w = (i ∙ sym j, e ∙ sym f)
kinds_same r q b x c y (Large i e n) (Open j f m) w =
    absurd (large_no_quote x _ n (sym (here b x e) ∙ w ∙ here c y f ∙ m.parts))
kinds_same r q b x c y (Open i e n) (Nothing j f m) w =
    absurd (nothing_no_quote y _ m (sym (here c y f) ∙ sym w ∙ here b x e ∙ n.parts))
kinds_same r q b x c y (Open i e n) (Bad j m) w = absurd (bad_no_open c y x m n (sym w ∙ here b x e))
kinds_same r q b x c y (Open i e n) (Large j f m) w =
    absurd (large_no_quote y _ m (sym (here c y f) ∙ sym w ∙ here b x e ∙ n.parts))
kinds_same r q b x c y (Open i e n) (Open j f m) w = (i ∙ sym j, e ∙ sym f)

-- ---- whole texts

abbrev SameFault : Rule → Rule → ℕ → ℕ → Type 0
SameFault r q m n = (r ≡ q) × (m ≡ n)

-- where no piece begins, a longer cutting is none
no_more : (zs : List TextPiece) (x y : Text) → NoPiece x → x ≡ text_of zs ++ y → ArePieces zs y → zs ≡ []
no_more [] x y n e m = refl
no_more (z ∷ zs) x y n e m = absurd (n z (text_of zs ++ y) m.0 (e ∙ append_assoc _ (text_of zs) y))

same_cut : (ps qs zs : List TextPiece) (x y : Text) → NoPiece x → qs ≡ ps ++ zs → x ≡ text_of zs ++ y → ArePieces zs y
    → (text_of ps ≡ text_of qs) × (x ≡ y)
same_cut ps qs zs x y n e w m =
    let none : zs ≡ [] = no_more zs x y n w m in
    (ap text_of (sym (append-nil ps) ∙ ap (λ l. ps ++ l) (sym none) ∙ sym e), w ∙ ap (λ l. text_of l ++ y) none)

cut_same : (bytes : Text) (r q : Rule) (m n : ℕ) → CutFault bytes r m → CutFault bytes q n → SameFault r q m n
cut_same bytes r q m n f g =
    let x : Text = f.before ++ f.rest in
    let y : Text = g.before ++ g.rest in
    let no_x : NoPiece x = fault_no_piece r f.before f.rest f.fault in
    let no_y : NoPiece y = fault_no_piece q g.before g.rest g.fault in
    let texts : text_of f.pieces ++ x ≡ text_of g.pieces ++ y = encodes_same _ _ (sym f.whole ∙ g.whole) in
    let cut : (text_of f.pieces ≡ text_of g.pieces) × (x ≡ y) =
    elim (cuttings f.pieces g.pieces x y f.each g.each texts) as
    (λ _. (text_of f.pieces ≡ text_of g.pieces) × (x ≡ y)) [
      | inl h ↦ same_cut f.pieces g.pieces h.0 x y no_x h.1 h.2 h.3
      | inr h ↦ let k = same_cut g.pieces f.pieces h.0 y x no_y h.1 h.2 h.3 in (sym k.0, sym k.1)
    ] in
    let kinds = kinds_same r q f.before f.rest g.before g.rest (kind_of r f.before f.rest f.fault)
    (kind_of q g.before g.rest g.fault) cut.1 in (
      kinds.0,
      f.offset ∙ ap (λ w. width (w ++ f.before)) cut.0 ∙ ap (λ w. width (text_of g.pieces ++ w)) kinds.1
          ∙ sym g.offset,
    )

abbrev Parted : Text → Rule → ℕ → Type 0
Parted bytes r at = ((r ≡ rule.NotText) × IsValidUpTo bytes at) ⊎ CutFault bytes r at

parted : (bytes : Text) (r : Rule) (at : ℕ) → LexFault bytes r at → Parted bytes r at
parted bytes rule.NotText at f = inl (refl, f)
parted bytes _ at f = inr f

not_text : (bytes : Text) (at : ℕ) → IsValidUpTo bytes at → IsUtf8 bytes → ⊥
not_text bytes at v u = let P : Text → Type 0 = IsUtf8 in v.longest (length bytes) v.short
    (subst P (sym (take-length bytes)) u)

parted_same : (bytes : Text) (r q : Rule) (m n : ℕ) → Parted bytes r m → Parted bytes q n → SameFault r q m n
parted_same bytes r q m n (inl f) (inl g) =
    (f.0 ∙ sym g.0, sym (utf8_valid_len-IsValidUpTo bytes m f.1) ∙ utf8_valid_len-IsValidUpTo bytes n g.1)
parted_same bytes r q m n (inl f) (inr g) = absurd (not_text bytes m f.1 g.utf8)
parted_same bytes r q m n (inr f) (inl g) = absurd (not_text bytes n g.1 f.utf8)
parted_same bytes r q m n (inr f) (inr g) = cut_same bytes r q m n f g

pub faults_same : (bytes : Text) (r q : Rule) (m n : ℕ) → LexFault bytes r m → LexFault bytes q n → (r ≡ q) × (m ≡ n)
faults_same bytes r q m n f g = parted_same bytes r q m n (parted bytes r m f) (parted bytes q n g)

parted_refuses : (bytes : Text) (r : Rule) (at : ℕ) (tokens : List Token) → Parted bytes r at → Lexes bytes tokens → ⊥
parted_refuses bytes r at tokens (inl f) l = not_text bytes at f.1 l.utf8
parted_refuses bytes r at tokens (inr f) l = fault_refuses bytes r at tokens f l

pub faults_refuse : (bytes : Text) (r : Rule) (at : ℕ) (tokens : List Token) → LexFault bytes r at
    → Lexes bytes tokens → ⊥
faults_refuse bytes r at tokens f l = parted_refuses bytes r at tokens (parted bytes r at f) l
