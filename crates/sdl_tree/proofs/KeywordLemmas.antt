-- Looking a word up in a table.
use Rattle.std.proofs.Common.{◌≡◌, refl, map, List, [], ◌∷◌, ℕ, Bool, ◌||◌, ap, ◌∙◌, true, false, cond, Option, Some, None, option_map}
use Rattle.std.specs.Borrow.{Bor}
use Rattle.std.specs.List.{find}
use Rattle.std.specs.Str.{bytes_eq}
use Rattle.sdl_tree.specs.declared.mark.Mark.{Mark}
use Rattle.sdl_tree.specs.declared.keyword.Keyword.{Keyword}
use Rattle.sdl_tree.specs.declared.mark.Case.{Case}
use Rattle.sdl_tree.specs.Keyword.{entry, both_cases, keyword_in, lower_case_in}

pub find_mapped : {A B : Type 0} (f : A → B) (p : B → Bool) (xs : List A) → option_map f (find (λ x. p (f x)) xs) ≡ find p (map f xs)
find_mapped f p [] = refl
find_mapped f p (x ∷ xs) =
    elim (p (f x)) as (λ b. option_map f (cond b (Some x) (find (λ y. p (f y)) xs)) ≡ cond b (Some (f x)) (find p (map f xs))) [
      | true ↦ refl
      | false ↦ find_mapped f p xs
    ]

abbrev pub keyword_of_entry : Mark × Case × Bor (List ℕ) → Keyword
keyword_of_entry e = record { mark = e.0; case = e.1 }

keyword_twice : (o : Option (Mark × Case × Bor (List ℕ))) → option_map keyword_of_entry o ≡ option_map {T = Keyword × List ℕ} (λ e. e.0) (option_map entry o)
keyword_twice None = refl
keyword_twice (Some e) = refl

pub keyword_found_in : (table : List (Mark × Case × Bor (List ℕ))) (word : List ℕ) →
    option_map keyword_of_entry (find (λ e. bytes_eq e.2.now word) table) ≡ keyword_in (map entry table) word
keyword_found_in table word =
    let keyword : Keyword × List ℕ → Keyword = λ e. e.0 in
    keyword_twice (find (λ e. bytes_eq e.2.now word) table) ∙ ap (option_map keyword) (find_mapped entry (λ e. bytes_eq e.1 word) table)

lower_twice : (o : Option (Bor (List ℕ) × Bor (List ℕ))) → option_map {T = Bor (List ℕ) × Bor (List ℕ)} (λ e. e.0.now) o ≡ option_map {T = List ℕ × List ℕ} (λ e. e.0) (option_map both_cases o)
lower_twice None = refl
lower_twice (Some e) = refl

pub lower_case_found : (table : List (Bor (List ℕ) × Bor (List ℕ))) (word : List ℕ) →
    let lower : Bor (List ℕ) × Bor (List ℕ) → List ℕ = λ e. e.0.now in
    option_map lower (find (λ e. bytes_eq e.0.now word || bytes_eq e.1.now word) table) ≡ lower_case_in (map both_cases table) word
lower_case_found table word =
    let lower : List ℕ × List ℕ → List ℕ = λ entry. entry.0 in
    lower_twice (find (λ e. bytes_eq e.0.now word || bytes_eq e.1.now word) table)
    ∙ ap (option_map lower) (find_mapped both_cases (λ e. bytes_eq e.0 word || bytes_eq e.1 word) table)
