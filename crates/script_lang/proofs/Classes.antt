-- Which row of a table of lines a keyword names, and what the words of a line say by their first.
use Rattle.std.proofs.Common.{◌≡◌, ◌∙◌, ℕ, Bor, ◌-◌, ◌<◌, ◌≤◌, Bool, true, false, List, [], ◌∷◌, length, map, get_or, take, drop, Option, Some, None, Result, Err, if◌then◌else◌, suc, refl, sym, ap, subst, arith}
use Rattle.std.{specs.{Option.IfSome, Result.IfOk, Str.bytes_eq}, proofs.lemmas.List.take_all}
use Rattle.board_model.specs.{Shapes.Size, declared.{console_command.ConsoleCommand.ConsoleCommand, refusal.Refusal.TheVariants.BadScript}}
use Rattle.script_lang.specs.declared.{armings.Arming.Arming, line.Line.{Line, TheVariants.{Format, Command, Show, Arm, Inspect, Wake}}}
use Rattle.script_lang.specs.{declared.looks.Look.Look, Armings.{arming_said, cutat_of, cutlane_of, failat_of, faillane_of}}
use Rattle.script_lang.specs.{Commands.command_said, Lines.{other_said, line_of, payload_of, on_of, turn_of, call_line_of, cut_of, poke_of}}
use Rattle.script_lang.specs.{Looks.look_said, Scripts.{board_of, size_of_words}, Words.{alone, or_else, three_of}}
use lib.Chars.{codes}

-- what a comparison with a word found
pub named : (w l word : List ℕ) (b r : Bool) → l ≡ word → b ≡ bytes_eq w l → b ≡ r → bytes_eq w word ≡ r
named w l word b r is by found = ap (λ (x : List ℕ). bytes_eq w x) (sym is) ∙ sym by ∙ found

-- what is equal to a value is so to its equal, where memory is
pub ok_at : {A E : Type 0} (r : Result A E) (a b : A) → IfOk r (λ x. x ≡ a) → a ≡ b → IfOk r (λ x. x ≡ b)
ok_at {A} r a b is same = subst (λ (y : A). IfOk r (λ x. x ≡ y)) same is

-- ---- the first word and the others

-- the texts of words
abbrev pub seen : List (Bor (List ℕ)) → List (List ℕ)
seen ws = map (λ w. w.now) ws

abbrev pub first_of : List (Bor (List ℕ)) → List ℕ
first_of ws = (get_or ws 0 (record { ref_ptr = (0, 0); now = [] })).now

abbrev pub others_of : List (Bor (List ℕ)) → List (List ℕ)
others_of ws = seen (take (length ws - 1) (drop 1 ws))

parted : (ws : List (Bor (List ℕ))) → 1 ≤ length ws → seen ws ≡ first_of ws ∷ others_of ws
parted [] some = absurd (omega (arith, some))
parted (w ∷ ws) some =
    let all : suc (length ws) - 1 ≡ length ws = omega arith in
    ap (λ (l : List (Bor (List ℕ))). w.now ∷ seen l) (sym (ap (λ (n : ℕ). take n ws) all ∙ take_all (length ws) ws (omega arith)))

no_words : (ws : List (Bor (List ℕ))) → length ws < 1 → seen ws ≡ []
no_words [] none = refl
no_words (w ∷ ws) none = absurd (omega (arith, none))

-- ---- the line of a keyword, by its class

pub says_nothing : (size : Size) (ws : List (Bor (List ℕ))) → length ws < 1 → None ≡ line_of size (seen ws)
says_nothing size ws none = sym (ap (λ (l : List (List ℕ)). line_of size l) (no_words ws none))

module _ (size : Size) (ws : List (Bor (List ℕ))) (some : 1 ≤ length ws) where
  are : line_of size (first_of ws ∷ others_of ws) ≡ line_of size (seen ws)
  are = sym (ap (λ (l : List (List ℕ)). line_of size l) (parted ws some))

  abbrev after_look : Option Line
  after_look = or_else Arm (arming_said size (first_of ws) (others_of ws)) (other_said size (first_of ws) (others_of ws))

  abbrev after_command : Option Line
  after_command = or_else Show (look_said size (first_of ws) (others_of ws)) after_look

  pub says_command : (x : ConsoleCommand) → Some x ≡ command_said (first_of ws) (others_of ws) → Some (Command x) ≡ line_of size (seen ws)
  says_command x is = ap (λ (o : Option ConsoleCommand). or_else Command o after_command) is ∙ are

  module _ (no_command : None ≡ command_said (first_of ws) (others_of ws)) where
    past_commands : after_command ≡ line_of size (seen ws)
    past_commands = ap (λ (o : Option ConsoleCommand). or_else Command o after_command) no_command ∙ are

    pub says_look : (x : Look) → Some x ≡ look_said size (first_of ws) (others_of ws) → Some (Show x) ≡ line_of size (seen ws)
    says_look x is = ap (λ (o : Option Look). or_else Show o after_look) is ∙ past_commands

    module _ (no_look : None ≡ look_said size (first_of ws) (others_of ws)) where
      past_looks : after_look ≡ line_of size (seen ws)
      past_looks = ap (λ (o : Option Look). or_else Show o after_look) no_look ∙ past_commands

      pub says_arming : (x : Arming) → Some x ≡ arming_said size (first_of ws) (others_of ws) → Some (Arm x) ≡ line_of size (seen ws)
      says_arming x is = ap (λ (o : Option Arming). or_else Arm o (other_said size (first_of ws) (others_of ws))) is ∙ past_looks

      pub says_other : None ≡ arming_said size (first_of ws) (others_of ws) → other_said size (first_of ws) (others_of ws) ≡ line_of size (seen ws)
      says_other not = ap (λ (o : Option Arming). or_else Arm o (other_said size (first_of ws) (others_of ws))) not ∙ past_looks

-- ---- the lines of no class

module _ (size : Size) (keyword : List ℕ) (words : List (List ℕ)) where
  abbrev after8 : Option Line
  after8 = if bytes_eq keyword (codes "wake") then alone Wake words else None

  abbrev after7 : Option Line
  after7 = if bytes_eq keyword (codes "inspect") then alone Inspect words else after8

  abbrev after6 : Option Line
  after6 = if bytes_eq keyword (codes "poke") then poke_of size words else after7

  abbrev after5 : Option Line
  after5 = if bytes_eq keyword (codes "cut") then cut_of words else after6

  abbrev after4 : Option Line
  after4 = if bytes_eq keyword (codes "call") then call_line_of size words else after5

  abbrev after3 : Option Line
  after3 = if bytes_eq keyword (codes "turn") then turn_of size words else after4

  abbrev after2 : Option Line
  after2 = if bytes_eq keyword (codes "on") then on_of words else after3

  abbrev after1 : Option Line
  after1 = if bytes_eq keyword (codes "format") then alone Format words else after2

  pub is_payload : bytes_eq keyword (codes "payload") ≡ true → payload_of words ≡ other_said size keyword words
  is_payload t = sym (ap (λ (b : Bool). if b then payload_of words else after1) t)

  module _ (no1 : bytes_eq keyword (codes "payload") ≡ false) where
    past1 : after1 ≡ other_said size keyword words
    past1 = sym (ap (λ (b : Bool). if b then payload_of words else after1) no1)

    pub is_format : bytes_eq keyword (codes "format") ≡ true → alone Format words ≡ other_said size keyword words
    is_format t = sym (ap (λ (b : Bool). if b then alone Format words else after2) t) ∙ past1

    module _ (no2 : bytes_eq keyword (codes "format") ≡ false) where
      past2 : after2 ≡ other_said size keyword words
      past2 = sym (ap (λ (b : Bool). if b then alone Format words else after2) no2) ∙ past1

      pub is_on : bytes_eq keyword (codes "on") ≡ true → on_of words ≡ other_said size keyword words
      is_on t = sym (ap (λ (b : Bool). if b then on_of words else after3) t) ∙ past2

      module _ (no3 : bytes_eq keyword (codes "on") ≡ false) where
        past3 : after3 ≡ other_said size keyword words
        past3 = sym (ap (λ (b : Bool). if b then on_of words else after3) no3) ∙ past2

        pub is_turn : bytes_eq keyword (codes "turn") ≡ true → turn_of size words ≡ other_said size keyword words
        is_turn t = sym (ap (λ (b : Bool). if b then turn_of size words else after4) t) ∙ past3

        module _ (no4 : bytes_eq keyword (codes "turn") ≡ false) where
          past4 : after4 ≡ other_said size keyword words
          past4 = sym (ap (λ (b : Bool). if b then turn_of size words else after4) no4) ∙ past3

          pub is_call : bytes_eq keyword (codes "call") ≡ true → call_line_of size words ≡ other_said size keyword words
          is_call t = sym (ap (λ (b : Bool). if b then call_line_of size words else after5) t) ∙ past4

          module _ (no5 : bytes_eq keyword (codes "call") ≡ false) where
            past5 : after5 ≡ other_said size keyword words
            past5 = sym (ap (λ (b : Bool). if b then call_line_of size words else after5) no5) ∙ past4

            pub is_cut : bytes_eq keyword (codes "cut") ≡ true → cut_of words ≡ other_said size keyword words
            is_cut t = sym (ap (λ (b : Bool). if b then cut_of words else after6) t) ∙ past5

            module _ (no6 : bytes_eq keyword (codes "cut") ≡ false) where
              past6 : after6 ≡ other_said size keyword words
              past6 = sym (ap (λ (b : Bool). if b then cut_of words else after6) no6) ∙ past5

              pub is_poke : bytes_eq keyword (codes "poke") ≡ true → poke_of size words ≡ other_said size keyword words
              is_poke t = sym (ap (λ (b : Bool). if b then poke_of size words else after7) t) ∙ past6

              module _ (no7 : bytes_eq keyword (codes "poke") ≡ false) where
                past7 : after7 ≡ other_said size keyword words
                past7 = sym (ap (λ (b : Bool). if b then poke_of size words else after7) no7) ∙ past6

                pub is_inspect : bytes_eq keyword (codes "inspect") ≡ true → alone Inspect words ≡ other_said size keyword words
                is_inspect t = sym (ap (λ (b : Bool). if b then alone Inspect words else after8) t) ∙ past7

                module _ (no8 : bytes_eq keyword (codes "inspect") ≡ false) where
                  past8 : after8 ≡ other_said size keyword words
                  past8 = sym (ap (λ (b : Bool). if b then alone Inspect words else after8) no8) ∙ past7

                  pub is_wake : bytes_eq keyword (codes "wake") ≡ true → alone Wake words ≡ other_said size keyword words
                  is_wake t = sym (ap (λ (b : Bool). if b then alone Wake words else None) t) ∙ past8

                  pub is_none : bytes_eq keyword (codes "wake") ≡ false → None ≡ other_said size keyword words
                  is_none f = sym (ap (λ (b : Bool). if b then alone Wake words else None) f) ∙ past8

-- a line of no words is in its range
pub alone_fits : (P : Line → Type 0) (line : Line) (words : List (List ℕ)) (r : Option Line) → r ≡ alone line words → P line → IfSome r P
alone_fits P line [] r is p = subst (λ (o : Option Line). IfSome o P) (sym is) p
alone_fits P line (w ∷ words) r is p = subst (λ (o : Option Line). IfSome o P) (sym is) tt

-- ---- the lines that arm a fault

module _ (size : Size) (keyword : List ℕ) (words : List (List ℕ)) where
  abbrev arms3 : Option Arming
  arms3 = if bytes_eq keyword (codes "faillane") then faillane_of size words else None

  abbrev arms2 : Option Arming
  arms2 = if bytes_eq keyword (codes "failat") then failat_of words else arms3

  abbrev arms1 : Option Arming
  arms1 = if bytes_eq keyword (codes "cutlane") then cutlane_of size words else arms2

  pub is_cutat : bytes_eq keyword (codes "cutat") ≡ true → cutat_of words ≡ arming_said size keyword words
  is_cutat t = sym (ap (λ (b : Bool). if b then cutat_of words else arms1) t)

  module _ (no1 : bytes_eq keyword (codes "cutat") ≡ false) where
    armed1 : arms1 ≡ arming_said size keyword words
    armed1 = sym (ap (λ (b : Bool). if b then cutat_of words else arms1) no1)

    pub is_cutlane : bytes_eq keyword (codes "cutlane") ≡ true → cutlane_of size words ≡ arming_said size keyword words
    is_cutlane t = sym (ap (λ (b : Bool). if b then cutlane_of size words else arms2) t) ∙ armed1

    module _ (no2 : bytes_eq keyword (codes "cutlane") ≡ false) where
      armed2 : arms2 ≡ arming_said size keyword words
      armed2 = sym (ap (λ (b : Bool). if b then cutlane_of size words else arms2) no2) ∙ armed1

      pub is_failat : bytes_eq keyword (codes "failat") ≡ true → failat_of words ≡ arming_said size keyword words
      is_failat t = sym (ap (λ (b : Bool). if b then failat_of words else arms3) t) ∙ armed2

      module _ (no3 : bytes_eq keyword (codes "failat") ≡ false) where
        armed3 : arms3 ≡ arming_said size keyword words
        armed3 = sym (ap (λ (b : Bool). if b then failat_of words else arms3) no3) ∙ armed2

        pub is_faillane : bytes_eq keyword (codes "faillane") ≡ true → faillane_of size words ≡ arming_said size keyword words
        is_faillane t = sym (ap (λ (b : Bool). if b then faillane_of size words else None) t) ∙ armed3

        pub no_arming : bytes_eq keyword (codes "faillane") ≡ false → None ≡ arming_said size keyword words
        no_arming f = sym (ap (λ (b : Bool). if b then faillane_of size words else None) f) ∙ armed3

-- ---- the board line

pub no_board : (n : ℕ) (ws : List (Bor (List ℕ))) → length ws < 1 → board_of n (seen ws) ≡ Err (BadScript n)
no_board n ws none = ap (λ (l : List (List ℕ)). board_of n l) (no_words ws none)

module _ (n : ℕ) (ws : List (Bor (List ℕ))) (some : 1 ≤ length ws) where
  begun : board_of n (seen ws) ≡ board_of n (first_of ws ∷ others_of ws)
  begun = ap (λ (l : List (List ℕ)). board_of n l) (parted ws some)

  pub board_named : bytes_eq (first_of ws) (codes "board") ≡ true → board_of n (seen ws) ≡ size_of_words n (three_of (others_of ws))
  board_named t = begun ∙ ap (λ (b : Bool). if b then size_of_words n (three_of (others_of ws)) else Err (BadScript n)) t

  pub other_named : bytes_eq (first_of ws) (codes "board") ≡ false → board_of n (seen ws) ≡ Err (BadScript n)
  other_named f = begun ∙ ap (λ (b : Bool). if b then size_of_words n (three_of (others_of ws)) else Err (BadScript n)) f
