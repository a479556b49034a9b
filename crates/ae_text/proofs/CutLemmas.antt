-- Whole texts: one cutting, one fault's place, and the loop that cuts.
use Rattle.std.proofs.Common.{◌≡◌, ◌==◌, if◌then◌else◌, Bool, true, false, ℕ, ◌+◌, ◌-◌, ◌<◌, ◌≤◌, List, [], ◌∷◌}
use Rattle.std.proofs.Common.{◌++◌, length, take, Option, ◌⊎◌, inl, inr, refl, sym, ap, ◌∙◌, subst, append_assoc}
use Rattle.std.proofs.Common.{append-nil, length-append, arith}
use Rattle.std.proofs.Math.Seq.{take-length}
use Rattle.std.specs.Str.{encode_utf8_all, chars, IsUtf8}
use Rattle.std.proofs.lemmas.Str.{encodes-append, encodes_same, encodes-chars}
use Rattle.std.proofs.lemmas.Str.{length-le-encodes}
use Rattle.ae_text.specs.declared.refusal.Spot.{Spot}
use Rattle.ae_text.specs.declared.token.Token.{Token}
use Rattle.ae_text.specs.declared.token.TokenKind.{TokenKind}
use Rattle.ae_text.specs.declared.token.TokenKind.TheVariants as t
use Rattle.ae_text.specs.declared.refusal.Rule.{Rule}
use Rattle.ae_text.specs.declared.refusal.Rule.TheVariants as rule
use Rattle.ae_text.specs.declared.refusal.Deny.TheVariants as deny
use Rattle.ae_text.specs.declared.faults.Fault.{Fault}
use Rattle.ae_text.specs.declared.faults.Fault.TheVariants as fault
use Rattle.ae_text.specs.Tokens.{Text, width, parts_text, TextPiece, White, Comment, Tok, piece_text, Spells}
use Rattle.ae_text.specs.Tokens.{IsNumber, IsPiece, text_of, ArePieces, IsNothing, IsTooLarge, IsOpen, IsBadEscape}
use Rattle.ae_text.specs.Tokens.{IsFault, next_spot, first_spot, spot_after, place, token_at, tokens_from, end_token}
use Rattle.ae_text.specs.Tokens.{Lexes, CutFault, LexFault, IsTextDenied, HasNoEnd, IsWhole}
use Rattle.ae_text.specs.Scan.{Front, Cuts, FaultAfter, Faults, Scanned, IsFaultWithin, denied, kind_in, token_of}
use Rattle.ae_text.proofs.ScanLemmas.{front_nil, front_then, front_as, front_length, front_take, front_smaller}
use Rattle.ae_text.proofs.ScanLemmas.{front_utf8}
use Rattle.ae_text.proofs.QuoteLemmas.{open_no_quoted, bad_no_quoted}
use Rattle.ae_text.proofs.LexLemmas.{piece_unique, spells_first, nothing_no_piece, large_no_piece, quote_piece}
use Rattle.ae_text.proofs.PlaceLemmas.{moved-append}

-- ---- one cutting

-- no piece is empty
spelling_some : (p : TextPiece) (x : Text) → IsPiece p x → (b : ℕ) × (r : Text) × (piece_text p ≡ b ∷ r)
spelling_some (White b) x m = (b, [], refl)
spelling_some (Comment c) x m = (_, _, refl)
spelling_some (Tok k s) x m = let f = spells_first k s m.spells in (f.0, f.1, f.2)

-- of two cuttings of one text one goes on where the other ends
abbrev pub GoesOn : List TextPiece → List TextPiece → Text → Text → Type 0
GoesOn ps qs x y = (zs : List TextPiece) × (qs ≡ ps ++ zs) × (x ≡ text_of zs ++ y) × ArePieces zs y

abbrev pub OneGoesOn : List TextPiece → List TextPiece → Text → Text → Type 0
OneGoesOn ps qs x y = GoesOn ps qs x y ⊎ GoesOn qs ps y x

after_one : (p : TextPiece) (ps qs : List TextPiece) (x y : Text) → OneGoesOn ps qs x y
    → OneGoesOn (p ∷ ps) (p ∷ qs) x y
after_one p ps qs x y e = elim e as (λ _. OneGoesOn (p ∷ ps) (p ∷ qs) x y) [
  | inl g ↦ inl (g.0, ap (λ l. p ∷ l) g.1, g.2, g.3)
  | inr g ↦ inr (g.0, ap (λ l. p ∷ l) g.1, g.2, g.3)
]

pub cuttings : (ps qs : List TextPiece) (x y : Text) → ArePieces ps x → ArePieces qs y → text_of ps ++ x ≡ text_of qs
    ++ y → OneGoesOn ps qs x y
cuttings [] qs x y m n e = inl (qs, refl, e, n)
cuttings (p ∷ ps) [] x y m n e = inr (p ∷ ps, refl, sym e, m)
cuttings (p ∷ ps) (q ∷ qs) x y m n e =
    let all : piece_text p ++ (text_of ps ++ x) ≡ piece_text q ++ (text_of qs ++ y) =
    sym (append_assoc (piece_text p) (text_of ps) x) ∙ e ∙ append_assoc (piece_text q) (text_of qs) y in
    let r = piece_unique p q (text_of ps ++ x) (text_of qs ++ y) m.0 n.0 all in
    let P : TextPiece → Type 0 = λ w. OneGoesOn (p ∷ ps) (w ∷ qs) x y in
    subst P r.0 (after_one p ps qs x y (cuttings ps qs x y m.1 n.1 r.1))

nothing_left : (zs : List TextPiece) (y : Text) → ArePieces zs y → [] ≡ text_of zs ++ y → zs ≡ []
nothing_left [] y m e = refl
nothing_left (z ∷ zs) y m e =
    let f = spelling_some z (text_of zs ++ y) m.0 in
    let no_way : [] ≡ f.0 ∷ (f.1 ++ (text_of zs ++ y)) = e ∙ append_assoc (piece_text z) (text_of zs) y
    ∙ ap (λ l. l ++ (text_of zs ++ y)) f.2 in cc

cut_unique : (ps qs : List TextPiece) → ArePieces ps [] → ArePieces qs [] → text_of ps ≡ text_of qs → ps ≡ qs
cut_unique ps qs m n e =
    elim (cuttings ps qs [] [] m n (ap (λ l. l ++ []) e)) as (λ _. ps ≡ qs) [
      | inl g ↦ sym (append-nil ps) ∙ ap (λ l. ps ++ l) (sym (nothing_left g.0 [] g.3 g.2)) ∙ sym g.1
      | inr g ↦ g.1 ∙ ap (λ l. qs ++ l) (nothing_left g.0 [] g.3 g.2) ∙ append-nil qs
    ]

pub lexes_unique : (bytes : Text) (ts us : List Token) → Lexes bytes ts → Lexes bytes us → ts ≡ us
lexes_unique bytes ts us a b =
    let texts : text_of a.pieces ≡ text_of b.pieces = encodes_same _ _ (sym a.whole ∙ b.whole) in
    let same : a.pieces ≡ b.pieces = cut_unique a.pieces b.pieces a.each b.each texts in
    a.are ∙ ap (λ l. tokens_from bytes 0 l ++ end_token bytes ∷ []) same ∙ sym b.are

-- ---- where a fault stands, no piece begins

abbrev pub NoPiece : Text → Type 0
NoPiece text = (p : TextPiece) (x : Text) → IsPiece p x → text ≡ piece_text p ++ x → ⊥

open_no_piece : (text : Text) → IsOpen text → NoPiece text
open_no_piece text o p x m e =
    let q = quote_piece p _ x m (sym o.parts ∙ e) in
    open_no_quoted text q.0 (34 ∷ q.1) x o q.3 (e ∙ ap (λ w. piece_text w ++ x) q.2)

bad_no_piece : (before rest : Text) → IsBadEscape before rest → NoPiece (before ++ rest)
bad_no_piece before rest o p x m e =
    let q = quote_piece p _ x m (ap (λ w. w ++ rest) (sym o.front) ∙ e) in
    bad_no_quoted before rest q.0 (34 ∷ q.1) x o q.3 (e ∙ ap (λ w. piece_text w ++ x) q.2)

pub fault_no_piece : (r : Rule) (before rest : Text) → IsFault r before rest → NoPiece (before ++ rest)
fault_no_piece rule.BadChar before rest (inl f) p x m e = nothing_no_piece p rest x f.1 m
    (ap (λ w. w ++ rest) (sym f.0) ∙ e)
fault_no_piece rule.BadChar before rest (inr f) p x m e = bad_no_piece before rest f p x m e
fault_no_piece rule.IntTooLarge before rest f p x m e = large_no_piece p rest x f.1 m
    (ap (λ w. w ++ rest) (sym f.0) ∙ e)
fault_no_piece rule.OpenText before rest f p x m e = open_no_piece rest f.1 p x m (ap (λ w. w ++ rest) (sym f.0) ∙ e)
fault_no_piece _ before rest f p x m e = absurd f

large_some : (text : Text) → IsTooLarge text → text ≡ [] → ⊥
large_some text f e = no_number f.digits f.after (sym e ∙ f.parts) f.number
  where
    no_number : (s after : Text) → [] ≡ s ++ after → IsNumber s → ⊥
    no_number [] after e n = n
    no_number (d ∷ s) after e n = let no_way : [] ≡ d ∷ (s ++ after) = e in cc

fault_some : (r : Rule) (before rest : Text) → IsFault r before rest → before ++ rest ≡ [] → ⊥
fault_some rule.BadChar before rest (inl f) e = let P : Text
    → Type 0 = IsNothing in subst P (ap (λ w. w ++ rest) (sym f.0) ∙ e) f.1
fault_some rule.BadChar before rest (inr f) e = let no_way : [] ≡ 34 ∷ (parts_text f.inner ++ rest) = sym e
    ∙ ap (λ w. w ++ rest) f.front in cc
fault_some rule.IntTooLarge before rest f e = large_some rest f.1 (ap (λ w. w ++ rest) (sym f.0) ∙ e)
fault_some rule.OpenText before rest f e = let no_way : [] ≡ 34 ∷ (parts_text f.1.inner ++ f.1.after) = sym e
    ∙ ap (λ w. w ++ rest) f.0 ∙ f.1.parts in cc
fault_some _ before rest f e = absurd f

goes_past : (zs : List TextPiece) (x : Text) → NoPiece x → (x ≡ [] → ⊥) → x ≡ text_of zs ++ [] → ArePieces zs [] → ⊥
goes_past [] x f s e m = s e
goes_past (z ∷ zs) x f s e m = f z (text_of zs ++ []) m.0 (e ∙ append_assoc (piece_text z) (text_of zs) [])

fault_stops : (ps qs : List TextPiece) (x : Text) → ArePieces ps x → ArePieces qs [] → NoPiece x → (x ≡ [] → ⊥)
    → text_of ps ++ x ≡ text_of qs → ⊥
fault_stops ps qs x m n f s e =
    elim (cuttings ps qs x [] m n (e ∙ sym (append-nil (text_of qs)))) as (λ _. ⊥) [
      | inl g ↦ goes_past g.0 x f s g.2 g.3
      | inr g ↦ let zs_none : g.0 ≡ [] = nothing_left g.0 x g.3 g.2 in s (sym (g.2 ∙ ap (λ l. text_of l ++ x) zs_none))
    ]

pub fault_refuses : (bytes : Text) (r : Rule) (at : ℕ) (us : List Token) → CutFault bytes r at → Lexes bytes us → ⊥
fault_refuses bytes r at us f b =
    let texts : text_of f.pieces ++ (f.before ++ f.rest) ≡ text_of b.pieces = encodes_same _ _
    (sym f.whole ∙ b.whole)
    in fault_stops f.pieces b.pieces (f.before ++ f.rest) f.each b.each (fault_no_piece r f.before f.rest f.fault)
    (fault_some r f.before f.rest f.fault) texts

-- ---- one more piece

width-append : (a b : Text) → width (a ++ b) ≡ width a + width b
width-append a b = ap length (encodes-append a b) ∙ length-append (encode_utf8_all a) (encode_utf8_all b)

text_of-push : (ps : List TextPiece) (p : TextPiece) → text_of (ps ++ p ∷ []) ≡ text_of ps ++ piece_text p
text_of-push [] p = append-nil (piece_text p)
text_of-push (q ∷ ps) p = ap (λ l. piece_text q ++ l) (text_of-push ps p)
    ∙ sym (append_assoc (piece_text q) (text_of ps) (piece_text p))

ArePieces-push : (ps : List TextPiece) (p : TextPiece) (x : Text) → ArePieces ps (piece_text p ++ x) → IsPiece p x
    → ArePieces (ps ++ p ∷ []) x
ArePieces-push [] p x m n = (n, tt)
ArePieces-push (q ∷ ps) p x m n =
    let P : Text → Type 0 = IsPiece q in (
      subst P (sym (append_assoc (text_of ps) (piece_text p) x) ∙ ap (λ l. l ++ x) (sym (text_of-push ps p))) m.0,
      ArePieces-push ps p x m.1 n,
    )

moved-characters : (a b : Text) → spot_after (spot_after first_spot (encode_utf8_all a)) (encode_utf8_all b)
    ≡ spot_after first_spot (encode_utf8_all (a ++ b))
moved-characters a b = sym (moved-append first_spot (encode_utf8_all a) (encode_utf8_all b))
    ∙ ap (spot_after first_spot) (sym (encodes-append a b))

tokens-append : (bytes : Text) (at : ℕ) (ps qs : List TextPiece) → tokens_from bytes at (ps ++ qs)
    ≡ tokens_from bytes at ps ++ tokens_from bytes (at + width (text_of ps)) qs
tokens-append bytes at [] qs = ap (λ n. tokens_from bytes n qs) (omega arith)
tokens-append bytes at (p ∷ ps) qs =
    let w : ℕ = width (piece_text p) in
    let size : at + w + width (text_of ps) ≡ at + width (piece_text p ++ text_of ps) =
    omega (arith, width-append (piece_text p) (text_of ps)) in
    ap (λ l. token_at bytes at p ++ l)
    (tokens-append bytes (at + w) ps qs ∙ ap (λ n. tokens_from bytes (at + w) ps ++ tokens_from bytes n qs) size)
    ∙ sym (append_assoc (token_at bytes at p) (tokens_from bytes (at + w) ps)
    (tokens_from bytes (at + width (piece_text p ++ text_of ps)) qs))

token_of_piece : (bytes : Text) (at : ℕ) (p : TextPiece) → tokens_from bytes at (p ∷ []) ≡ token_of (kind_in p) at
    (at + width (piece_text p)) (place bytes at)
token_of_piece bytes at (White b) = refl
token_of_piece bytes at (Comment c) = refl
token_of_piece bytes at (Tok k s) = refl

-- the place behind the characters of a front
place_of : (bytes x s : Text) → Front bytes s x → place bytes (width s) ≡ spot_after first_spot (encode_utf8_all s)
place_of bytes x s f = ap (spot_after first_spot) (front_take bytes x s (width s) f refl)

scanned_more : (bytes rest after : Text) (spot : Spot) (tokens : List Token) (kind : Option TokenKind)
    → Scanned bytes rest spot tokens → Cuts rest kind after →
    Scanned bytes after (spot_after spot (take (length rest - length after) rest))
    (tokens ++ token_of kind (length bytes - length rest) (length bytes - length rest + (length rest - length after))
    spot)
scanned_more bytes rest after spot tokens kind s c =
    let ps = s.pieces in
    let n : ℕ = width (text_of ps) in
    let w : ℕ = width (piece_text c.piece) in
    let rest_len : length rest ≡ w + length after = front_length rest after (piece_text c.piece) c.front in
    let bytes_len : length bytes ≡ n + length rest = front_length bytes rest (text_of ps) s.front in
    let size : length rest - length after ≡ w = omega arith in
    let begin : length bytes - length rest ≡ n = omega arith in
    let taken : take (length rest - length after) rest ≡ encode_utf8_all (piece_text c.piece) = front_take rest after
    (piece_text c.piece) _ c.front size in
    let here : spot ≡ place bytes n = s.spot_is ∙ sym (place_of bytes rest (text_of ps) s.front) in
    let zero_plus : n ≡ 0 + n = omega arith in
    let P : Text → Type 0 = ArePieces ps in
    record {
      pieces = ps ++ c.piece ∷ [];
      utf8 = s.utf8;
      front = front_as bytes after _ _ (sym (text_of-push ps c.piece))
          (front_then bytes rest after (text_of ps) (piece_text c.piece) s.front c.front);
      each = ArePieces-push ps c.piece (chars after) (subst P c.front.characters s.each) c.is;
      spot_is = ap (spot_after spot) taken ∙ ap (λ p. spot_after p (encode_utf8_all (piece_text c.piece))) s.spot_is
          ∙ moved-characters (text_of ps) (piece_text c.piece) ∙ ap (λ l. spot_after first_spot (encode_utf8_all l))
          (sym (text_of-push ps c.piece));
      tokens_are =
          ap (λ l. l ++ token_of kind (length bytes - length rest)
          (length bytes - length rest + (length rest - length after)) spot) s.tokens_are
          ∙ ap (λ l. tokens_from bytes 0 ps ++ l)
          (ap (λ k. token_of k (length bytes - length rest)
          (length bytes - length rest + (length rest - length after)) spot) c.kind_is
          ∙ ap (λ k. token_of (kind_in c.piece) k (k + (length rest - length after)) spot) begin
          ∙ ap (λ k. token_of (kind_in c.piece) n (n + k) spot) size
          ∙ ap (λ p. token_of (kind_in c.piece) n (n + w) p) here
          ∙ sym (token_of_piece bytes n c.piece))
          ∙ ap (λ k. tokens_from bytes 0 ps ++ tokens_from bytes k (c.piece ∷ [])) zero_plus
          ∙ sym (tokens-append bytes 0 ps (c.piece ∷ []));
    }

pub scanned_next : (bytes rest after : Text) (spot spot' : Spot) (tokens tokens' : List Token)
    (kind : Option TokenKind) → Scanned bytes rest spot tokens → Cuts rest kind after →
    spot' ≡ spot_after spot (take (length rest - length after) rest)
    → tokens' ≡ tokens ++ token_of kind (length bytes - length rest)
    (length bytes - length rest + (length rest - length after)) spot →
    Scanned bytes after spot' tokens'
scanned_next bytes rest after spot spot' tokens tokens' kind s c e d =
    let P : Spot → Type 0 = λ p. Scanned bytes after p tokens' in
    let Q : List Token → Type 0 = λ l. Scanned bytes after (spot_after spot (take (length rest - length after) rest))
    l in
    subst P (sym e) (subst Q (sym d) (scanned_more bytes rest after spot tokens kind s c))

pub cuts_smaller : (rest after : Text) (kind : Option TokenKind) → Cuts rest kind after → length after < length rest
cuts_smaller rest after kind c =
    let f = spelling_some c.piece (chars after) c.is in
    front_smaller rest after f.0 f.1 (front_as rest after _ _ f.2 c.front)

pub cuts_utf8 : (rest after : Text) (kind : Option TokenKind) → Cuts rest kind after → IsUtf8 rest → IsUtf8 after
cuts_utf8 rest after kind c u = front_utf8 rest after (piece_text c.piece) c.front u

pub scanned_end : (bytes rest : Text) (spot : Spot) (tokens : List Token) → Scanned bytes rest spot tokens
    → chars rest ≡ [] → Lexes bytes
    (tokens ++ record { kind = (end_token bytes).kind; begin = length bytes; end = length bytes; at = spot } ∷ [])
scanned_end bytes rest spot tokens s e =
    let all : bytes ≡ encode_utf8_all (text_of s.pieces) =
    sym (encodes-chars bytes s.utf8)
    ∙ ap encode_utf8_all (s.front.characters ∙ ap (λ l. text_of s.pieces ++ l) e ∙ append-nil (text_of s.pieces))
    in
    let here : spot ≡ place bytes (length bytes) = s.spot_is ∙ ap (spot_after first_spot)
    (sym all ∙ sym (take-length bytes)) in
    let P : Text → Type 0 = ArePieces s.pieces in
    record {
      pieces = s.pieces;
      utf8 = s.utf8;
      whole = all;
      each = subst P e s.each;
      are = ap (λ l. l ++ record {
        kind = (end_token bytes).kind;
        begin = length bytes;
        end = length bytes;
        at =
            spot;
      } ∷ []) s.tokens_are
          ∙ ap (λ p. tokens_from bytes 0 s.pieces
          ++ record { kind = (end_token bytes).kind; begin = length bytes; end = length bytes; at = p } ∷ [])
          here;
    }

scanned_fault : (bytes rest : Text) (spot : Spot) (tokens : List Token) (r : Rule) (ahead : ℕ)
    → Scanned bytes rest spot tokens → FaultAfter rest r ahead → (at : ℕ) × CutFault bytes r at
    × (spot_after spot (take ahead rest) ≡ place bytes at)
scanned_fault bytes rest spot tokens r ahead s f =
    let ps = s.pieces in
    let both : Front bytes (text_of ps ++ f.before) f.after = front_then bytes rest f.after
    (text_of ps) f.before s.front f.front in
    let taken : take ahead rest ≡ encode_utf8_all f.before = front_take rest f.after f.before ahead f.front
    f.ahead_is in
    let P : Text → Type 0 = ArePieces ps in (
      width (text_of ps ++ f.before),
      record {
        pieces = ps;
        before = f.before;
        rest = chars f.after;
        utf8 = s.utf8;
        whole = sym (encodes-chars bytes s.utf8)
            ∙ ap encode_utf8_all (s.front.characters ∙ ap (λ l. text_of ps ++ l) f.front.characters);
        each = subst P f.front.characters s.each;
        offset = refl;
        fault = f.is;
      },
      ap (spot_after spot) taken ∙ ap (λ p. spot_after p (encode_utf8_all f.before)) s.spot_is
          ∙ moved-characters (text_of ps) f.before ∙ sym (place_of bytes f.after (text_of ps ++ f.before) both),
    )

-- ---- places fit

abbrev chosen : Bool → Spot → Spot
chosen b p = if b then record { line = p.line + 1; col = 1 } else record { line = p.line; col = p.col + 1 }

step-bound : (b : Bool) (p : Spot) → 0 < p.col → ((chosen b p).line ≤ p.line + 1) × ((chosen b p).col ≤ p.col + 1)
    × (0 < (chosen b p).col)
step-bound true p h = (omega arith, omega arith, omega arith)
step-bound false p h = (omega arith, omega arith, omega arith)

moved-bound : (p : Spot) (bs : Text) → 0 < p.col → ((spot_after p bs).line ≤ p.line + length bs)
    × ((spot_after p bs).col ≤ p.col + length bs) × (0 < (spot_after p bs).col)
moved-bound p [] h = (omega arith, omega arith, h)
moved-bound p (b ∷ bs) h =
    let a = step-bound (b == 10) p h in
    let r = moved-bound (next_spot p b) bs a.2 in
    (omega (arith, a.0, r.0), omega (arith, a.1, r.1), r.2)

pub scanned_place : (bytes rest : Text) (spot : Spot) (tokens : List Token) → Scanned bytes rest spot tokens
    → (spot.line + length rest ≤ 1 + length bytes) × (spot.col + length rest ≤ 1 + length bytes) × (0 < spot.col)
scanned_place bytes rest spot tokens s =
    let b = moved-bound first_spot (encode_utf8_all (text_of s.pieces)) (omega arith) in
    let l : spot.line ≡ (spot_after first_spot (encode_utf8_all (text_of s.pieces))).line =
    ap (λ (p : Spot). p.line) s.spot_is in
    let k : spot.col ≡ (spot_after first_spot (encode_utf8_all (text_of s.pieces))).col =
    ap (λ (p : Spot). p.col) s.spot_is in
    let bytes_len : length bytes ≡ width (text_of s.pieces) + length rest = front_length bytes rest
    (text_of s.pieces) s.front in
    (omega (arith, b.0), omega (arith, b.1), omega (arith, b.2))

-- ---- refusals

cut_is_fault : (bytes : Text) (r : Rule) (at : ℕ) → CutFault bytes r at → LexFault bytes r at
cut_is_fault bytes rule.NotText at f = absurd f.fault
cut_is_fault bytes _ at f = f

pub scanned_denied : (bytes rest : Text) (spot : Spot) (tokens : List Token) (f : Fault)
    → Scanned bytes rest spot tokens → Faults rest f → IsTextDenied bytes (denied f rest spot)
scanned_denied bytes rest spot tokens (fault.Rule r ahead) s f = let q = scanned_fault bytes rest spot tokens r ahead
    s f in (q.0, cut_is_fault bytes r q.0 q.1, q.2)
scanned_denied bytes rest spot tokens fault.Memory s f = tt

pub scanned_refused : (bytes rest : Text) (spot : Spot) (tokens us : List Token) (f : Fault)
    → Scanned bytes rest spot tokens → Faults rest f → Lexes bytes us → denied f rest spot ≡ deny.Memory
scanned_refused bytes rest spot tokens us (fault.Rule r ahead) s f l =
    absurd (let q = scanned_fault bytes rest spot tokens r ahead s f in fault_refuses bytes r q.0 us q.1 l)
scanned_refused bytes rest spot tokens us fault.Memory s f l = refl

-- ---- the end is last

no_end-append : (xs ys : List Token) → HasNoEnd xs → HasNoEnd ys → HasNoEnd (xs ++ ys)
no_end-append [] ys m n = n
no_end-append (x ∷ xs) ys m n = (m.0, no_end-append xs ys m.1 n)

spelled_no_end : (k : TokenKind) (s : Text) → Spells k s → k ≡ t.End → ⊥
spelled_no_end k s h e = let P : TokenKind → Type 0 = λ w. Spells w s in subst P e h

token_no_end : (bytes x : Text) (at : ℕ) (p : TextPiece) → IsPiece p x → HasNoEnd (token_at bytes at p)
token_no_end bytes x at (White b) m = tt
token_no_end bytes x at (Comment c) m = tt
token_no_end bytes x at (Tok k s) m = (spelled_no_end k s m.spells, tt)

tokens_no_end : (bytes x : Text) (at : ℕ) (ps : List TextPiece) → ArePieces ps x → HasNoEnd (tokens_from bytes at ps)
tokens_no_end bytes x at [] m = tt
tokens_no_end bytes x at (p ∷ ps) m =
    no_end-append (token_at bytes at p) (tokens_from bytes (at + width (piece_text p)) ps)
    (token_no_end bytes (text_of ps ++ x) at p m.0) (tokens_no_end bytes x (at + width (piece_text p)) ps m.1)

pub lexes_whole : (bytes : Text) (tokens : List Token) → Lexes bytes tokens → IsWhole tokens
lexes_whole bytes tokens l = record {
  front = tokens_from bytes 0 l.pieces;
  last = end_token bytes;
  parts = l.are;
  no_end = tokens_no_end bytes []
      0 l.pieces l.each;
  end = refl;
}

-- ---- each token has a character of its own

some_char : (s r : Text) (c : ℕ) → s ≡ c ∷ r → 0 < length s
some_char s r c e = omega (arith, ap length e)

token_few : (bytes x : Text) (at : ℕ) (p : TextPiece) → IsPiece p x
    → length (token_at bytes at p) ≤ length (piece_text p)
token_few bytes x at (White c) m = omega arith
token_few bytes x at (Comment c) m = omega arith
token_few bytes x at (Tok k s) m = let f = spells_first k s m.spells in omega (arith, some_char s f.1 f.0 f.2)

tokens_few : (bytes x : Text) (at : ℕ) (ps : List TextPiece) → ArePieces ps x
    → length (tokens_from bytes at ps) ≤ length (text_of ps)
tokens_few bytes x at [] m = omega arith
tokens_few bytes x at (p ∷ ps) m =
    omega (arith, length-append (token_at bytes at p) (tokens_from bytes (at + width (piece_text p)) ps), length-append (piece_text p) (text_of ps), token_few bytes (text_of ps ++ x) at p m.0, tokens_few bytes x (at + width (piece_text p)) ps m.1)

pub lexes_few : (bytes : Text) (tokens : List Token) → Lexes bytes tokens → length tokens ≤ length bytes + 1
lexes_few bytes tokens l =
    omega (arith, ap length l.are, length-append (tokens_from bytes 0 l.pieces) (end_token bytes ∷ []), tokens_few bytes [] 0 l.pieces l.each, ap length l.whole, length-le-encodes (text_of l.pieces))
