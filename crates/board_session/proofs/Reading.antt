-- A line as it is read, byte by byte.
use Rattle.std.proofs.Common.{◌≡◌, ◌≢◌, ◌<◌, ◌∙◌, ℕ, List, [], ◌∷◌, ◌++◌, length, take, Option, sym, ap, arith, inl, inr}
use Rattle.std.proofs.lemmas.{Bool.cases_lt, List.{take_all, take-append-le, length-take-le, length-append}}
use Rattle.std.proofs.{lemmas.List.Elements.{All-nil, All-cons, All-append}, KnownBytes.{Consumes-nil, Consumes-trans, Consumes-kept}}
use Rattle.std.specs.Io.KnownBytes.{Consumes, IsAtEnd, Keeps}
use Rattle.board_session.specs.declared.lines.LineEnd.TheVariants as line_ends
use Rattle.board_session.specs.Lines.{HasNoFeed, TakesLine}

-- so far no line feed came, and the first 257 bytes are kept
pub record Reading (old new : Option (List ℕ)) (kept : List ℕ) : Type 0 where
  pub line : List ℕ
  pub plain : HasNoFeed line
  pub first : kept ≡ take 257 line
  pub taken : Consumes old new line

pub begun : (a : Option (List ℕ)) (kept : List ℕ) → kept ≡ [] → Reading a a kept
begun a kept e = record { line = []; plain = All-nil (λ b. b ≢ 10); first = e; taken = Consumes-nil a }

-- the first 257 of those and one more
first_more : (b : ℕ) (line : List ℕ) → take 257 (take 257 line ++ b ∷ []) ≡ take 257 (line ++ b ∷ [])
first_more b line =
    elim (cases_lt (length line) 257) [
      | inl short ↦ ap (λ (xs : List ℕ). take 257 (xs ++ b ∷ [])) (take_all 257 line (omega (arith, short)))
      | inr long ↦
          let full : length (take 257 line) ≡ 257 = length-take-le 257 line long in
          take-append-le 257 (take 257 line) (b ∷ []) (omega (arith, full)) ∙ take_all 257 (take 257 line) (omega (arith, full)) ∙ sym (take-append-le 257 line (b ∷ []) long)
    ]

pub one_more : (old mid new : Option (List ℕ)) (kept : List ℕ) (b : ℕ) → Reading old mid kept → Consumes mid new (b ∷ []) → b ≢ 10 → Reading old new (take 257 (kept ++ b ∷ []))
one_more old mid new kept b r came ne = record {
  line = r.line ++ b ∷ [];
  plain = All-append (λ c. c ≢ 10) r.line (b ∷ []) r.plain (All-cons (λ c. c ≢ 10) b [] ne (All-nil (λ c. c ≢ 10)));
  first = ap (λ (xs : List ℕ). take 257 (xs ++ b ∷ [])) r.first ∙ first_more b r.line;
  taken = Consumes-trans old mid new r.line (b ∷ []) r.taken came;
}

-- a line feed came
pub fed : (old mid new : Option (List ℕ)) (kept : List ℕ) → Reading old mid kept → Consumes mid new (10 ∷ []) → TakesLine old new kept line_ends.Feed
fed old mid new kept r came = (r.line, r.plain, r.first, Consumes-trans old mid new r.line (10 ∷ []) r.taken came)

-- nothing more came: the input has ended, or failed
pub ended : (old mid new : Option (List ℕ)) (kept : List ℕ) → Reading old mid kept → Keeps mid new → IsAtEnd new → TakesLine old new kept line_ends.EndOfInput
ended old mid new kept r stays end = (r.line, r.plain, r.first, (Consumes-kept old mid new r.line r.taken stays, end))

pub failed : (old mid new : Option (List ℕ)) (kept : List ℕ) → Reading old mid kept → Keeps mid new → TakesLine old new kept line_ends.Failure
failed old mid new kept r stays = (r.line, r.plain, r.first, Consumes-kept old mid new r.line r.taken stays)

-- a byte that is kept where there is room
pub kept_short : (line : List ℕ) (b : ℕ) → length line < 257 → line ++ b ∷ [] ≡ take 257 (line ++ b ∷ [])
kept_short line b lt = sym (take_all 257 (line ++ b ∷ []) (let more = length-append line (b ∷ []) in omega (arith, more, lt)))

pub kept_full : (line : List ℕ) (b : ℕ) → length line ≡ 257 → line ≡ take 257 (line ++ b ∷ [])
kept_full line b full = sym (take-append-le 257 line (b ∷ []) (omega (arith, full)) ∙ take_all 257 line (omega (arith, full)))
