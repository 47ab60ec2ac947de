-- The spellings of words, and the words that no name is spelled like.
use Rattle.std.specs.Prelude.{◌≡◌, ℕ, Bool, ◌||◌, Option, List, [], ◌∷◌, ◌++◌, map, is_some, option_map, codes}
use Rattle.std.specs.Borrow.{Bor}
use Rattle.std.specs.List.{find}
use Rattle.std.specs.Str.{bytes_eq}
use Rattle.sdl_tree.specs.declared.keyword.Keyword.{Keyword}
use Rattle.sdl_tree.specs.declared.mark.Case.{Case}
use Rattle.sdl_tree.specs.declared.mark.Case.TheVariants.{Lower, Upper, Capital}
use Rattle.sdl_tree.specs.declared.mark.Mark.{Mark}
use Rattle.sdl_tree.specs.Mark.{keywords, literals, signs, text, in_upper_case, spelled}

-- a keyword in a spelling, with its text
abbrev pub spelling : Mark → Case → Keyword × List ℕ
spelling m case = (record { mark = m; case = case }, spelled m case)

-- each keyword in lower and in upper case
abbrev pub keyword_spellings : List Mark → List (Keyword × List ℕ)
keyword_spellings [] = []
keyword_spellings (m ∷ marks) = spelling m Lower ∷ spelling m Upper ∷ keyword_spellings marks

-- each literal also with a capital first letter
abbrev pub literal_spellings : List Mark → List (Keyword × List ℕ)
literal_spellings [] = []
literal_spellings (m ∷ marks) = spelling m Lower ∷ spelling m Upper ∷ spelling m Capital ∷ literal_spellings marks

-- the words of the standard that the language leaves out
abbrev pub left_out_words : List (List ℕ)
left_out_words =
    codes "alternative" ∷ codes "any" ∷ codes "call" ∷ codes "exception" ∷ codes "exceptionhandler" ∷
    codes "export" ∷ codes "exported" ∷ codes "gate" ∷ codes "if" ∷ codes "import" ∷ codes "imported" ∷
    codes "inherits" ∷ codes "interface" ∷ codes "macro" ∷ codes "macrodefinition" ∷ codes "newtype" ∷
    codes "none" ∷ codes "package" ∷ codes "procedure" ∷ codes "referenced" ∷ codes "remote" ∷ codes "return" ∷
    codes "revealed" ∷ codes "select" ∷ codes "service" ∷ codes "signalroute" ∷ codes "substructure" ∷
    codes "syntype" ∷ codes "this" ∷ codes "type" ∷ codes "via" ∷ codes "view" ∷ codes "viewed" ∷
    codes "virtual" ∷ []

-- an entry of a table, with its text
abbrev pub entry : Mark × Case × Bor (List ℕ) → Keyword × List ℕ
entry e = (record { mark = e.0; case = e.1 }, e.2.now)

-- a word in lower and in upper case
abbrev pub both_cases : Bor (List ℕ) × Bor (List ℕ) → List ℕ × List ℕ
both_cases entry = (entry.0.now, entry.1.now)

-- the lower case of the first word with this text in lower or in upper case
abbrev pub lower_case_in : List (List ℕ × List ℕ) → List ℕ → Option (List ℕ)
lower_case_in table word =
    let lower : List ℕ × List ℕ → List ℕ = λ entry. entry.0 in
    option_map lower (find (λ entry. bytes_eq entry.0 word || bytes_eq entry.1 word) table)

-- the keyword of the first entry with this text
abbrev pub keyword_in : List (Keyword × List ℕ) → List ℕ → Option Keyword
keyword_in table word =
    let keyword : Keyword × List ℕ → Keyword = λ e. e.0 in
    option_map keyword (find (λ e. bytes_eq e.1 word) table)

-- the keyword or the literal that the bytes spell
unfoldable pub keyword_found : List ℕ → Option Keyword
keyword_found word = keyword_in (keyword_spellings keywords ++ literal_spellings literals) word

-- the mark of other characters that the bytes spell
unfoldable pub sign_found : List ℕ → Option Mark
sign_found bytes = find (λ m. bytes_eq (text m) bytes) signs

-- the word in lower case, if the bytes spell a word that is left out
unfoldable pub left_out_found : List ℕ → Option (List ℕ)
left_out_found bytes = lower_case_in (map (λ lower. (lower, in_upper_case lower)) left_out_words) bytes

-- whether a word is reserved: a keyword or a literal, or a word for what is left out
unfoldable pub is_reserved : List ℕ → Bool
is_reserved word = is_some (keyword_found word) || is_some (left_out_found word)

-- These entries are enough to look up a keyword or a literal that begins with this byte.
abbrev pub AreKeywordsFrom : ℕ → List (Keyword × List ℕ) → Type 0
AreKeywordsFrom first entries = (rest : List ℕ) → keyword_in entries (first ∷ rest) ≡ keyword_found (first ∷ rest)

-- These entries are enough to look up a word that is left out and begins with this byte.
abbrev pub AreLeftOutFrom : ℕ → List (List ℕ × List ℕ) → Type 0
AreLeftOutFrom first entries = (rest : List ℕ) → lower_case_in entries (first ∷ rest) ≡ left_out_found (first ∷ rest)
