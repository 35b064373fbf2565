-- What the words of looks name in a kernel's memory. Source: docs/CHECKING.md, "What is asked".
use Rattle.std.specs.Prelude.{◌≡◌, ◌⊎◌, ◌==◌, ◌&&◌, ◌+◌, ◌≤◌, ℕ, Bool, true, false, List, [], ◌∷◌, ◌++◌, Option, None, Some, Ok, if◌then◌else◌, length, nat_le, string_bytes}
use Rattle.std.specs.Option.{option_map, unwrap_or}
use Rattle.hex.specs.Hex.{decode_of}
use Rattle.script_lang.specs.Words.{number_of}
use Rattle.elf_image.specs.Symbols.{IsFirstNamed, entry_at, symbol_of}
use Rattle.elf_image.specs.declared.kernel_file.Elf.{Elf}
use Rattle.elf_image.specs.declared.symbols.Symbol.{Symbol}
use Rattle.kernel_check.specs.declared.given.LookOption.{LookOption}
use Rattle.kernel_check.specs.declared.given.LookOption.TheVariants as options
use Rattle.kernel_check.specs.declared.given.LookWord.{LookWord}
use Rattle.kernel_check.specs.declared.looks.Look.{Look}
use lib.Chars.{codes}

-- ---- words
-- a digit comes first, as in no symbol
abbrev pub is_address : List ℕ → Bool
is_address [] = false
is_address (b ∷ bs) = nat_le 48 b && nat_le b 57

-- `NAME`, or `NAME:BYTES` with 1 to 4,096 bytes
abbrev pub IsWritten : Option ℕ → List ℕ → List ℕ → Type 0
IsWritten None name word = word ≡ name
IsWritten (Some bytes) name word =
    (digits : List ℕ) × (word ≡ name ++ (58 ∷ digits)) × (number_of digits ≡ Some bytes) × (1 ≤ bytes) × (bytes ≤ 4096)

-- a word of `--look`, which says how many bytes an address has
pub record IsLookWord (word : List ℕ) (look : LookWord) : Type 0 where
  pub written : IsWritten look.bytes (string_bytes look.name) word
  pub sized : is_address (string_bytes look.name) ≡ true → look.bytes ≡ None → ⊥
  pub free : look.expected ≡ None

-- a word of `--expect`: `NAME=HEX`, of as many bytes
pub record IsExpectWord (word : List ℕ) (look : LookWord) : Type 0 where
  pub digits : List ℕ
  pub bytes : List ℕ
  pub written : word ≡ string_bytes look.name ++ (61 ∷ digits)
  pub decoded : decode_of digits ≡ Ok bytes
  pub expected : option_map (λ v. v.items) look.expected ≡ Some bytes
  pub sized : look.bytes ≡ Some (length bytes)

-- a word of either option
abbrev pub IsWordOf : LookOption → List ℕ → LookWord → Type 0
IsWordOf options.Look = IsLookWord
IsWordOf options.Expect = IsExpectWord

-- ---- places
-- the first symbol of that name in a kernel's file
abbrev pub HasSymbol : Option Elf → List ℕ → Symbol → Type 0
HasSymbol None name symbol = ⊥
HasSymbol (Some elf) name symbol =
    (k : ℕ) × IsFirstNamed elf.tables.symbols.now elf.tables.names.now name k × (symbol ≡ symbol_of (entry_at elf.tables.symbols.now k))

-- the bytes of a symbol, and `bytes` where it has no size
abbrev pub bytes_or : ℕ → Symbol → ℕ
bytes_or bytes symbol = if symbol.size == 0 then bytes else symbol.size

-- a number is an address, whose look has 8 bytes if nothing is said
pub record IsNumber (name : List ℕ) (address bytes : ℕ) : Type 0 where
  pub number : is_address name ≡ true
  pub at : number_of name ≡ Some address
  pub word : bytes ≡ 8

-- another name is a symbol's, and has its bytes
pub record IsSymbol (elf : Option Elf) (name : List ℕ) (address bytes : ℕ) : Type 0 where
  pub symbol : Symbol
  pub named : is_address name ≡ false
  pub there : HasSymbol elf name symbol
  pub at : address ≡ symbol.address
  pub sized : bytes ≡ bytes_or 8 symbol

abbrev pub IsPlace : Option Elf → List ℕ → ℕ → ℕ → Type 0
IsPlace elf name address bytes = IsNumber name address bytes ⊎ IsSymbol elf name address bytes

-- ---- looks
-- the look of a word, from the start of RAM on
pub record IsLookOf (elf : Option Elf) (word : LookWord) (look : Look) : Type 0 where
  pub size : ℕ
  pub place : IsPlace elf (string_bytes word.name) (0x80000000 + look.start) size
  pub bytes : look.bytes ≡ unwrap_or word.bytes size
  pub name : string_bytes look.name ≡ string_bytes word.name
  pub expected : option_map (λ v. v.items) look.expected ≡ option_map (λ v. v.items) word.expected

abbrev pub AreLooksOf : Option Elf → List LookWord → List Look → Type 0
AreLooksOf elf [] [] = Unit {0}
AreLooksOf elf [] (look ∷ looks) = ⊥
AreLooksOf elf (word ∷ words) [] = ⊥
AreLooksOf elf (word ∷ words) (look ∷ looks) = IsLookOf elf word look × AreLooksOf elf words looks

-- the look where nothing is said: `shown`, which has 64 bytes where the file does not say it
pub record IsOwnLook (elf : Option Elf) (look : Look) : Type 0 where
  pub symbol : Symbol
  pub there : HasSymbol elf (codes "shown") symbol
  pub at : 0x80000000 + look.start ≡ symbol.address
  pub bytes : look.bytes ≡ bytes_or 64 symbol
  pub name : string_bytes look.name ≡ codes "shown"
  pub expected : look.expected ≡ None

-- what is looked at by the words; where there is none, at `shown`, or at nothing
abbrev pub AreLooks : Option Elf → List LookWord → List Look → Type 0
AreLooks elf [] looks = (looks ≡ []) ⊎ ((look : Look) × (looks ≡ look ∷ []) × IsOwnLook elf look)
AreLooks elf (word ∷ words) looks = AreLooksOf elf (word ∷ words) looks
