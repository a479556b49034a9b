-- Keywords and signs: each is told from the others by its text.
use Rattle.std.proofs.Common.{◌≡◌, ◌≢◌, ◌==◌, if◌then◌else◌, ℕ, zero, suc, ◌+◌, ◌<◌, take, get_or, Bool, true, false}
use Rattle.std.proofs.Common.{◌||◌, ◌&&◌, nat_le, IsTrue, ◌⊎◌, inl, inr, List, [], ◌∷◌, ◌++◌, length, Option, Some}
use Rattle.std.proofs.Common.{None, refl, sym, ap, ◌∙◌, subst, arith, rules, tests}
use Rattle.ae_text.specs.declared.token.Keyword.{Keyword}
use Rattle.ae_text.specs.declared.token.Keyword.TheVariants as word
use Rattle.ae_text.specs.declared.token.Sign.{Sign}
use Rattle.ae_text.specs.declared.token.Sign.TheVariants as sign
use Rattle.ae_text.specs.Tokens.{Text, Each, is_digit, begins_word, goes_on, keyword_text, sign_text, IsWord}
use Rattle.ae_text.specs.Scan.{NoSign}
use Rattle.std.specs.Str.{encode_utf8_all}
use Rattle.std.specs.Char.{is_ascii_alphabetic}
use Rattle.std.proofs.lemmas.Str.{encode_ascii}
use Rattle.unicode_ident.specs.Ident.{is_xid_start}
use Rattle.unicode_ident.proofs.IdentLemmas.{is_xid_start-ascii, is_xid_start-is_xid_continue}
use Rattle.std.proofs.lemmas.Bool.{or_right, and_parts}

abbrev pub keywords : List Keyword
keywords = word.Ints ∷ word.Assert ∷ word.Atomic ∷ word.Bool ∷ word.Class ∷ word.Else ∷ word.Exclusive ∷ word.False
    ∷ word.Freeze ∷ word.Group ∷ word.If ∷ word.Immutable ∷ word.Int ∷ word.Into ∷ word.Len ∷ word.Lent ∷ word.Let
    ∷ word.Method ∷ word.New ∷ word.None ∷ word.Null ∷ word.Open ∷ word.Print ∷ word.Protected ∷ word.Return
    ∷ word.Share ∷ word.Shared ∷ word.Split ∷ word.Take ∷ word.This ∷ word.True ∷ word.Unique ∷ word.Void ∷ word.While
    ∷ word.With ∷ []

abbrev pub signs : List Sign
signs = sign.OpenBrace ∷ sign.CloseBrace ∷ sign.OpenParen ∷ sign.CloseParen ∷ sign.OpenBracket ∷ sign.CloseBracket
    ∷ sign.Less ∷ sign.Greater ∷ sign.Away ∷ sign.Comma ∷ sign.Semicolon ∷ sign.Dot ∷ sign.Assign ∷ sign.Equal
    ∷ sign.NotEqual ∷ sign.LessEqual ∷ sign.GreaterEqual ∷ sign.Plus ∷ sign.Minus ∷ sign.Star ∷ sign.Slash
    ∷ sign.Percent ∷ sign.Not ∷ sign.AndAnd ∷ sign.OrOr ∷ []

abbrev same_text : Text → Text → Bool
same_text [] [] = true
same_text (b ∷ s) (c ∷ r) = (b == c) && same_text s r
same_text _ _ = false

-- the first of the list that has this text
abbrev find_by : {A : Type 0} → (A → Text) → Text → List A → Option A
find_by f s [] = None
find_by f s (x ∷ xs) = if same_text s (f x) then Some x else find_by f s xs

keyword_back : (k : Keyword) → find_by keyword_text (keyword_text k) keywords ≡ Some k
keyword_back word.Ints = refl
keyword_back word.Assert = refl
keyword_back word.Atomic = refl
keyword_back word.Bool = refl
keyword_back word.Class = refl
keyword_back word.Else = refl
keyword_back word.Exclusive = refl
keyword_back word.False = refl
keyword_back word.Freeze = refl
keyword_back word.Group = refl
keyword_back word.If = refl
keyword_back word.Immutable = refl
keyword_back word.Int = refl
keyword_back word.Into = refl
keyword_back word.Len = refl
keyword_back word.Lent = refl
keyword_back word.Let = refl
keyword_back word.Method = refl
keyword_back word.New = refl
keyword_back word.None = refl
keyword_back word.Null = refl
keyword_back word.Open = refl
keyword_back word.Print = refl
keyword_back word.Protected = refl
keyword_back word.Return = refl
keyword_back word.Share = refl
keyword_back word.Shared = refl
keyword_back word.Split = refl
keyword_back word.Take = refl
keyword_back word.This = refl
keyword_back word.True = refl
keyword_back word.Unique = refl
keyword_back word.Void = refl
keyword_back word.While = refl
keyword_back word.With = refl

pub keyword_unique : (k h : Keyword) → keyword_text k ≡ keyword_text h → k ≡ h
keyword_unique k h e = let both : Some k ≡ Some h = sym (keyword_back k) ∙ ap (λ s. find_by keyword_text s keywords) e
    ∙ keyword_back h in cc

sign_back : (g : Sign) → find_by sign_text (sign_text g) signs ≡ Some g
sign_back sign.OpenBrace = refl
sign_back sign.CloseBrace = refl
sign_back sign.OpenParen = refl
sign_back sign.CloseParen = refl
sign_back sign.OpenBracket = refl
sign_back sign.CloseBracket = refl
sign_back sign.Less = refl
sign_back sign.Greater = refl
sign_back sign.Away = refl
sign_back sign.Comma = refl
sign_back sign.Semicolon = refl
sign_back sign.Dot = refl
sign_back sign.Assign = refl
sign_back sign.Equal = refl
sign_back sign.NotEqual = refl
sign_back sign.LessEqual = refl
sign_back sign.GreaterEqual = refl
sign_back sign.Plus = refl
sign_back sign.Minus = refl
sign_back sign.Star = refl
sign_back sign.Slash = refl
sign_back sign.Percent = refl
sign_back sign.Not = refl
sign_back sign.AndAnd = refl
sign_back sign.OrOr = refl

pub sign_unique : (g h : Sign) → sign_text g ≡ sign_text h → g ≡ h
sign_unique g h e = let both : Some g ≡ Some h = sym (sign_back g) ∙ ap (λ s. find_by sign_text s signs) e
    ∙ sign_back h in cc

-- ---- what they begin with, and what they have

abbrev each_test : (ℕ → Bool) → Text → Bool
each_test c [] = true
each_test c (b ∷ s) = c b && each_test c s

each_by : (c : ℕ → Bool) (s : Text) → each_test c s ≡ true → Each c s
each_by c [] e = tt
each_by c (b ∷ s) e = let p = and_parts (c b) (each_test c s) e in (p.0, each_by c s p.1)

abbrev pub ascii_letter : ℕ → Bool
ascii_letter b = (nat_le 97 b && nat_le b 122) || (nat_le 65 b && nat_le b 90)

letter_low : (b : ℕ) → IsTrue (ascii_letter b) → b < 128
letter_low b h = search (rules, tests)

letter_alphabetic : (b : ℕ) → IsTrue (ascii_letter b) → IsTrue (is_ascii_alphabetic b)
letter_alphabetic b h = search (rules, tests)

letter_xid : (b : ℕ) → IsTrue (ascii_letter b) → is_xid_start b ≡ true
letter_xid b h = is_xid_start-ascii b (letter_low b h) ∙ letter_alphabetic b h

letter_begins : (b : ℕ) → IsTrue (ascii_letter b) → IsTrue (begins_word b)
letter_begins b h = or_right (b == 95) (is_xid_start b) (letter_xid b h)

letters_go_on : (s : Text) → Each ascii_letter s → Each goes_on s
letters_go_on [] e = tt
letters_go_on (b ∷ s) e = (is_xid_start-is_xid_continue b (letter_xid b e.0), letters_go_on s e.1)

letters_same : (s : Text) → Each ascii_letter s → encode_utf8_all s ≡ s
letters_same [] e = refl
letters_same (b ∷ s) e = ap (λ x. x ++ encode_utf8_all s) (encode_ascii b (letter_low b e.0))
    ∙ ap (λ x. b ∷ x) (letters_same s e.1)

-- a word that begins with an ASCII character begins with a letter or `_`
pub begins_ascii : (b : ℕ) → b < 128 → IsTrue (begins_word b) → IsTrue (b == 95 || is_ascii_alphabetic b)
begins_ascii b h w = let P : Bool → Type 0 = λ x. IsTrue (b == 95 || x) in subst P (is_xid_start-ascii b h) w

abbrev word_test : Text → Bool
word_test [] = false
word_test (b ∷ s) = ascii_letter b && each_test ascii_letter s

keyword_test : (k : Keyword) → word_test (keyword_text k) ≡ true
keyword_test word.Ints = refl
keyword_test word.Assert = refl
keyword_test word.Atomic = refl
keyword_test word.Bool = refl
keyword_test word.Class = refl
keyword_test word.Else = refl
keyword_test word.Exclusive = refl
keyword_test word.False = refl
keyword_test word.Freeze = refl
keyword_test word.Group = refl
keyword_test word.If = refl
keyword_test word.Immutable = refl
keyword_test word.Int = refl
keyword_test word.Into = refl
keyword_test word.Len = refl
keyword_test word.Lent = refl
keyword_test word.Let = refl
keyword_test word.Method = refl
keyword_test word.New = refl
keyword_test word.None = refl
keyword_test word.Null = refl
keyword_test word.Open = refl
keyword_test word.Print = refl
keyword_test word.Protected = refl
keyword_test word.Return = refl
keyword_test word.Share = refl
keyword_test word.Shared = refl
keyword_test word.Split = refl
keyword_test word.Take = refl
keyword_test word.This = refl
keyword_test word.True = refl
keyword_test word.Unique = refl
keyword_test word.Void = refl
keyword_test word.While = refl
keyword_test word.With = refl

is_word_by : (s : Text) → word_test s ≡ true → IsWord s
is_word_by [] e = absurd (cc)
is_word_by (b ∷ s) e = let p = and_parts (ascii_letter b)
    (each_test ascii_letter s) e in (letter_begins b p.0, letters_go_on s (each_by ascii_letter s p.1))

pub keyword_is_word : (k : Keyword) → IsWord (keyword_text k)
keyword_is_word k = is_word_by (keyword_text k) (keyword_test k)

word_same : (s : Text) → word_test s ≡ true → encode_utf8_all s ≡ s
word_same [] e = refl
word_same (b ∷ s) e = let p = and_parts (ascii_letter b) (each_test ascii_letter s) e in letters_same (b ∷ s)
    (p.0, each_by ascii_letter s p.1)

pub keyword_same : (k : Keyword) → encode_utf8_all (keyword_text k) ≡ keyword_text k
keyword_same k = word_same (keyword_text k) (keyword_test k)

-- a character that begins a sign begins nothing else
abbrev pub signs_start : ℕ → Bool
signs_start b = nat_le 33 b && nat_le b 125
    && (if ascii_letter b || is_digit b || b == 95 || b == 34 then false else true)

abbrev first_test : Text → Bool
first_test [] = false
first_test (b ∷ s) = signs_start b

sign_test : (g : Sign) → first_test (sign_text g) ≡ true
sign_test sign.OpenBrace = refl
sign_test sign.CloseBrace = refl
sign_test sign.OpenParen = refl
sign_test sign.CloseParen = refl
sign_test sign.OpenBracket = refl
sign_test sign.CloseBracket = refl
sign_test sign.Less = refl
sign_test sign.Greater = refl
sign_test sign.Away = refl
sign_test sign.Comma = refl
sign_test sign.Semicolon = refl
sign_test sign.Dot = refl
sign_test sign.Assign = refl
sign_test sign.Equal = refl
sign_test sign.NotEqual = refl
sign_test sign.LessEqual = refl
sign_test sign.GreaterEqual = refl
sign_test sign.Plus = refl
sign_test sign.Minus = refl
sign_test sign.Star = refl
sign_test sign.Slash = refl
sign_test sign.Percent = refl
sign_test sign.Not = refl
sign_test sign.AndAnd = refl
sign_test sign.OrOr = refl

sign_first_by : (s : Text) → first_test s ≡ true → (b : ℕ) × (r : Text) × (s ≡ b ∷ r) × IsTrue (signs_start b)
sign_first_by [] e = absurd (cc)
sign_first_by (b ∷ s) e = (b, s, refl, e)

pub sign_first : (g : Sign) → (b : ℕ) × (r : Text) × (sign_text g ≡ b ∷ r) × IsTrue (signs_start b)
sign_first g = sign_first_by (sign_text g) (sign_test g)

abbrev short : Text → Bool
short [] = false
short (b ∷ []) = true
short (b ∷ c ∷ []) = true
short (b ∷ c ∷ d ∷ s) = false

short_sign : (g : Sign) → short (sign_text g) ≡ true
short_sign sign.OpenBrace = refl
short_sign sign.CloseBrace = refl
short_sign sign.OpenParen = refl
short_sign sign.CloseParen = refl
short_sign sign.OpenBracket = refl
short_sign sign.CloseBracket = refl
short_sign sign.Less = refl
short_sign sign.Greater = refl
short_sign sign.Away = refl
short_sign sign.Comma = refl
short_sign sign.Semicolon = refl
short_sign sign.Dot = refl
short_sign sign.Assign = refl
short_sign sign.Equal = refl
short_sign sign.NotEqual = refl
short_sign sign.LessEqual = refl
short_sign sign.GreaterEqual = refl
short_sign sign.Plus = refl
short_sign sign.Minus = refl
short_sign sign.Star = refl
short_sign sign.Slash = refl
short_sign sign.Percent = refl
short_sign sign.Not = refl
short_sign sign.AndAnd = refl
short_sign sign.OrOr = refl

abbrev Shape : Text → Type 0
Shape s = ((b : ℕ) × (s ≡ b ∷ [])) ⊎ ((b : ℕ) × (c : ℕ) × (s ≡ b ∷ c ∷ []))

shape_of : (s : Text) → short s ≡ true → Shape s
shape_of [] e = absurd (cc)
shape_of (b ∷ []) e = inl (b, refl)
shape_of (b ∷ c ∷ []) e = inr (b, c, refl)
shape_of (b ∷ c ∷ d ∷ s) e = absurd (cc)

sign_shape : (g : Sign) → Shape (sign_text g)
sign_shape g = shape_of (sign_text g) (short_sign g)

-- no sign is spelled by these two characters
abbrev pub NoDouble : ℕ → Text → Type 0
NoDouble first rest = (second : ℕ) (r : Text) → rest ≡ second ∷ r → (g : Sign) → sign_text g ≢ first ∷ second ∷ []

pub no_sign_end : (text : Text) → text ≡ [] → NoSign text
no_sign_end text e = λ g after h. let f = sign_first g in let no_way : [] ≡ f.0 ∷ (f.1 ++ after) = sym e ∙ h
    ∙ ap (λ x. x ++ after) f.2 in cc

pub no_double_end : (first : ℕ) (rest : Text) → rest ≡ [] → NoDouble first rest
no_double_end first rest e = λ second r h g. absurd (let no_way : [] ≡ second ∷ r = sym e ∙ h in cc)

pub no_double : (first second : ℕ) (rest r : Text) → rest ≡ second ∷ r
    → ((g : Sign) → sign_text g ≢ first ∷ second ∷ []) → NoDouble first rest
no_double first second rest r e n =
    λ second' r' h g w. n g (let same : second' ≡ second = ap_head second' second r' r (sym h ∙ e) in w
    ∙ ap (λ x. first ∷ x ∷ []) same)
  where
    ap_head : (b c : ℕ) (s r : Text) → b ∷ s ≡ c ∷ r → b ≡ c
    ap_head b c s r e = cc

pub no_sign : (text rest : Text) (first : ℕ) → text ≡ first ∷ rest → NoDouble first rest
    → ((g : Sign) → sign_text g ≢ first ∷ []) → NoSign text
no_sign text rest first e d n = λ g after h. by_shape g after (sym e ∙ h) (sign_shape g)
  where
    by_shape : (g : Sign) (after : Text) → first ∷ rest ≡ sign_text g ++ after → Shape (sign_text g) → ⊥
    by_shape g after h (inl p) = n g
        (let all : first ∷ rest ≡ p.0 ∷ after = h ∙ ap (λ x. x ++ after) p.1 in let same : p.0 ≡ first = cc in p.1
        ∙ ap (λ x. x ∷ []) same)
    by_shape g after h (inr p) =
        let all : first ∷ rest ≡ p.0 ∷ p.1 ∷ after = h ∙ ap (λ x. x ++ after) p.2 in
        let same : p.0 ≡ first = cc in
        let tail : rest ≡ p.1 ∷ after = cc in
        d p.1 after tail g (p.2 ∙ ap (λ x. x ∷ p.1 ∷ []) same)

pub single_longest : (g : Sign) (first : ℕ) (rest : Text) → sign_text g ≡ first ∷ [] → NoDouble first rest →
    (h : Sign) (more after : Text) → rest ≡ more ++ after → sign_text g ++ more ≡ sign_text h → more ≡ []
single_longest g first rest e d h more after r w = by_shape more r (ap (λ x. x ++ more) (sym e) ∙ w) (sign_shape h)
  where
    by_shape : (more : Text) → rest ≡ more ++ after → first ∷ more ≡ sign_text h → Shape (sign_text h) → more ≡ []
    by_shape more r w (inl p) = let all : first ∷ more ≡ p.0 ∷ [] = w ∙ p.1 in cc
    by_shape more r w (inr p) =
        let all : first ∷ more ≡ p.0 ∷ p.1 ∷ [] = w ∙ p.2 in
        let same : p.0 ≡ first = cc in
        let tail : more ≡ p.1 ∷ [] = cc in
        absurd (d p.1 after (r ∙ ap (λ x. x ++ after) tail) h (p.2 ∙ ap (λ x. x ∷ p.1 ∷ []) same))

pub double_longest : (g : Sign) (first second : ℕ) → sign_text g ≡ first ∷ second ∷ [] →
    (h : Sign) (more : Text) → sign_text g ++ more ≡ sign_text h → more ≡ []
double_longest g first second e h more w = by_shape (ap (λ x. x ++ more) (sym e) ∙ w) (sign_shape h)
  where
    by_shape : first ∷ second ∷ more ≡ sign_text h → Shape (sign_text h) → more ≡ []
    by_shape w (inl p) = let all : first ∷ second ∷ more ≡ p.0 ∷ [] = w ∙ p.1 in absurd (cc)
    by_shape w (inr p) = let all : first ∷ second ∷ more ≡ p.0 ∷ p.1 ∷ [] = w ∙ p.2 in cc

-- ---- the search for a keyword

-- none of the keywords is spelled so
abbrev pub NoneIs : Text → List Keyword → Type 0
NoneIs s [] = Unit {0}
NoneIs s (k ∷ ks) = (s ≢ keyword_text k) × NoneIs s ks

pub none_of : (s : Text) (k : Keyword) → NoneIs s keywords → s ≢ keyword_text k
none_of s word.Ints n = n.0
none_of s word.Assert n = n.1.0
none_of s word.Atomic n = n.1.1.0
none_of s word.Bool n = n.1.1.1.0
none_of s word.Class n = n.1.1.1.1.0
none_of s word.Else n = n.1.1.1.1.1.0
none_of s word.Exclusive n = n.1.1.1.1.1.1.0
none_of s word.False n = n.1.1.1.1.1.1.1.0
none_of s word.Freeze n = n.1.1.1.1.1.1.1.1.0
none_of s word.Group n = n.1.1.1.1.1.1.1.1.1.0
none_of s word.If n = n.1.1.1.1.1.1.1.1.1.1.0
none_of s word.Immutable n = n.1.1.1.1.1.1.1.1.1.1.1.0
none_of s word.Int n = n.1.1.1.1.1.1.1.1.1.1.1.1.0
none_of s word.Into n = n.1.1.1.1.1.1.1.1.1.1.1.1.1.0
none_of s word.Len n = n.1.1.1.1.1.1.1.1.1.1.1.1.1.1.0
none_of s word.Lent n = n.1.1.1.1.1.1.1.1.1.1.1.1.1.1.1.0
none_of s word.Let n = n.1.1.1.1.1.1.1.1.1.1.1.1.1.1.1.1.0
none_of s word.Method n = n.1.1.1.1.1.1.1.1.1.1.1.1.1.1.1.1.1.0
none_of s word.New n = n.1.1.1.1.1.1.1.1.1.1.1.1.1.1.1.1.1.1.0
none_of s word.None n = n.1.1.1.1.1.1.1.1.1.1.1.1.1.1.1.1.1.1.1.0
none_of s word.Null n = n.1.1.1.1.1.1.1.1.1.1.1.1.1.1.1.1.1.1.1.1.0
none_of s word.Open n = n.1.1.1.1.1.1.1.1.1.1.1.1.1.1.1.1.1.1.1.1.1.0
none_of s word.Print n = n.1.1.1.1.1.1.1.1.1.1.1.1.1.1.1.1.1.1.1.1.1.1.0
none_of s word.Protected n = n.1.1.1.1.1.1.1.1.1.1.1.1.1.1.1.1.1.1.1.1.1.1.1.0
none_of s word.Return n = n.1.1.1.1.1.1.1.1.1.1.1.1.1.1.1.1.1.1.1.1.1.1.1.1.0
none_of s word.Share n = n.1.1.1.1.1.1.1.1.1.1.1.1.1.1.1.1.1.1.1.1.1.1.1.1.1.0
none_of s word.Shared n = n.1.1.1.1.1.1.1.1.1.1.1.1.1.1.1.1.1.1.1.1.1.1.1.1.1.1.0
none_of s word.Split n = n.1.1.1.1.1.1.1.1.1.1.1.1.1.1.1.1.1.1.1.1.1.1.1.1.1.1.1.0
none_of s word.Take n = n.1.1.1.1.1.1.1.1.1.1.1.1.1.1.1.1.1.1.1.1.1.1.1.1.1.1.1.1.0
none_of s word.This n = n.1.1.1.1.1.1.1.1.1.1.1.1.1.1.1.1.1.1.1.1.1.1.1.1.1.1.1.1.1.0
none_of s word.True n = n.1.1.1.1.1.1.1.1.1.1.1.1.1.1.1.1.1.1.1.1.1.1.1.1.1.1.1.1.1.1.0
none_of s word.Unique n = n.1.1.1.1.1.1.1.1.1.1.1.1.1.1.1.1.1.1.1.1.1.1.1.1.1.1.1.1.1.1.1.0
none_of s word.Void n = n.1.1.1.1.1.1.1.1.1.1.1.1.1.1.1.1.1.1.1.1.1.1.1.1.1.1.1.1.1.1.1.1.0
none_of s word.While n = n.1.1.1.1.1.1.1.1.1.1.1.1.1.1.1.1.1.1.1.1.1.1.1.1.1.1.1.1.1.1.1.1.1.0
none_of s word.With n = n.1.1.1.1.1.1.1.1.1.1.1.1.1.1.1.1.1.1.1.1.1.1.1.1.1.1.1.1.1.1.1.1.1.1.0

none_suc : (s : Text) (d : Keyword) (ks : List Keyword) (i : ℕ) → i < length ks → NoneIs s (take i ks)
    → s ≢ keyword_text (get_or ks i d) → NoneIs s (take (suc i) ks)
none_suc s d [] i h n m = absurd (omega arith)
none_suc s d (k ∷ ks) zero h n m = (m, tt)
none_suc s d (k ∷ ks) (suc i) h n m = (n.0, none_suc s d ks i (omega arith) n.1 m)

pub none_more : (s : Text) (d : Keyword) (ks : List Keyword) (i : ℕ) → i < length ks → NoneIs s (take i ks)
    → s ≢ keyword_text (get_or ks i d) → NoneIs s (take (i + 1) ks)
none_more s d ks i h n m = let P : ℕ → Type 0 = λ j. NoneIs s (take j ks) in let next : suc i
    ≡ i + 1 = omega arith in subst P next (none_suc s d ks i h n m)
