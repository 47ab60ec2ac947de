-- What tokens mean.
use Rattle.std.proofs.Common.{◌≡◌, refl, sym, subst, ℕ, Bool, true, false, true≢false, ◌&&◌, ◌==◌, IsTrue, ⊎_elim, inl, inr, ap, Some, option_map, List, [], ◌∷◌, codes}
use Rattle.std.proofs.lemmas.Bool.{eqb-true, or_cases}
use Rattle.sdl_lex.specs.Byte.{is_among, is_mark_byte}
use Rattle.sdl_lex.specs.Kind.{is_mark}
use Rattle.sdl_tree.specs.declared.mark.Mark.{Mark}
use Rattle.sdl_tree.specs.declared.mark.Mark.TheVariants as mark
use Rattle.sdl_tree.specs.Keyword.{keyword_found, sign_found, left_out_found}
use Rattle.sdl_tree.specs.Laws.{SignsAreFixed, TextsAreFixed}
use Rattle.sdl_tree.specs.Words.{fixed_or, in_lower_case, word_of}
use Rattle.sdl_tree.specs.Words as word

abbrev IsSign : List ℕ → Type 0
IsSign bytes = (m : Mark) × (sign_found bytes ≡ Some m)

abbrev Each : (ℕ → Type 0) → List ℕ → Type 0
Each P [] = Unit {0}
Each P (b ∷ bytes) = P b × Each P bytes

among_each : (P : ℕ → Type 0) (cs : List ℕ) → Each P cs → (b : ℕ) → IsTrue (is_among b cs) → P b
among_each P [] each b e = absurd (true≢false (sym e))
among_each P (c ∷ cs) each b e =
    ⊎_elim (λ same. subst P (sym (eqb-true b c same)) each.0) (among_each P cs each.1 b) (or_cases (b == c) (is_among b cs) e)

both_true : (x y : Bool) → IsTrue (x && y) → IsTrue x × IsTrue y
both_true true true e = (refl, refl)
both_true true false e = absurd (true≢false (sym e))
both_true false y e = absurd (true≢false (sym e))

sign_of_one : (b : ℕ) → IsTrue (is_mark_byte b) → IsSign (b ∷ [])
unfolding sign_found
sign_of_one = among_each (λ b. IsSign (b ∷ [])) (codes "(),;:=<>+-*/") (
  (mark.Open, refl),
  (
    (mark.Close, refl),
    (
      (mark.Comma, refl),
      (
        (mark.Semicolon, refl),
        (
          (mark.Colon, refl),
          (
            (mark.Equal, refl),
            ((mark.Less, refl), ((mark.Greater, refl), ((mark.Plus, refl), ((mark.Minus, refl), ((mark.Asterisk, refl), ((mark.Slash, refl), tt)))))),
          ),
        ),
      ),
    ),
  ),
)

sign_with_equal : (b : ℕ) → IsTrue (is_among b (codes ":/<>")) → IsSign (b ∷ 61 ∷ [])
unfolding sign_found
sign_with_equal = among_each (λ b. IsSign (b ∷ 61 ∷ [])) (codes ":/<>") (
  (mark.Assign, refl),
  ((mark.NotEqual, refl), ((mark.LessOrEqual, refl), ((mark.GreaterOrEqual, refl), tt))),
)

sign_of_two : (b c : ℕ) → IsTrue (is_mark (b ∷ c ∷ [])) → IsSign (b ∷ c ∷ [])
unfolding sign_found
sign_of_two b c e = ⊎_elim
    (λ h. let both = both_true (is_among b (codes ":/<>")) (c == 61) h in
    subst (λ d. IsSign (b ∷ d ∷ [])) (sym (eqb-true c 61 both.1)) (sign_with_equal b both.0))
    (λ h. let both = both_true (b == 61) (c == 62) h in
    subst (λ d. IsSign (d ∷ c ∷ [])) (sym (eqb-true b 61 both.0))
    (subst (λ d. IsSign (61 ∷ d ∷ [])) (sym (eqb-true c 62 both.1)) (mark.Implies, refl)))
    (or_cases (is_among b (codes ":/<>") && c == 61) (b == 61 && c == 62) e)

is_sign : (bytes : List ℕ) → IsTrue (is_mark bytes) → IsSign bytes
is_sign [] e = absurd (true≢false (sym e))
is_sign (b ∷ []) e = sign_of_one b e
is_sign (b ∷ c ∷ []) e = sign_of_two b c e
is_sign (b ∷ c ∷ d ∷ bytes) e = absurd (true≢false (sym e))

pub signs_are_fixed : SignsAreFixed
unfolding word_of
signs_are_fixed x e =
    let sign = is_sign x.text e in
    (sign.0, ap (λ found. fixed_or (word.Name x) x.place (option_map in_lower_case found)) sign.1)

pub texts_are_fixed : TextsAreFixed
unfolding word_of keyword_found sign_found left_out_found
texts_are_fixed mark.Active = inl refl
texts_are_fixed mark.And = inl refl
texts_are_fixed mark.Block = inl refl
texts_are_fixed mark.Channel = inl refl
texts_are_fixed mark.Comment = inl refl
texts_are_fixed mark.Connect = inl refl
texts_are_fixed mark.Connection = inl refl
texts_are_fixed mark.Create = inl refl
texts_are_fixed mark.Dcl = inl refl
texts_are_fixed mark.Decision = inl refl
texts_are_fixed mark.Else = inl refl
texts_are_fixed mark.EndBlock = inl refl
texts_are_fixed mark.EndChannel = inl refl
texts_are_fixed mark.EndConnection = inl refl
texts_are_fixed mark.EndDecision = inl refl
texts_are_fixed mark.EndProcess = inl refl
texts_are_fixed mark.EndState = inl refl
texts_are_fixed mark.EndSystem = inl refl
texts_are_fixed mark.Env = inl refl
texts_are_fixed mark.Fpar = inl refl
texts_are_fixed mark.From = inl refl
texts_are_fixed mark.Input = inl refl
texts_are_fixed mark.Join = inl refl
texts_are_fixed mark.Mod = inl refl
texts_are_fixed mark.NextState = inl refl
texts_are_fixed mark.NoDelay = inl refl
texts_are_fixed mark.Not = inl refl
texts_are_fixed mark.Now = inl refl
texts_are_fixed mark.Offspring = inl refl
texts_are_fixed mark.Or = inl refl
texts_are_fixed mark.Output = inl refl
texts_are_fixed mark.Parent = inl refl
texts_are_fixed mark.Priority = inl refl
texts_are_fixed mark.Process = inl refl
texts_are_fixed mark.Provided = inl refl
texts_are_fixed mark.Rem = inl refl
texts_are_fixed mark.Reset = inl refl
texts_are_fixed mark.Save = inl refl
texts_are_fixed mark.SelfPid = inl refl
texts_are_fixed mark.Sender = inl refl
texts_are_fixed mark.Set = inl refl
texts_are_fixed mark.Signal = inl refl
texts_are_fixed mark.SignalList = inl refl
texts_are_fixed mark.SignalSet = inl refl
texts_are_fixed mark.Start = inl refl
texts_are_fixed mark.State = inl refl
texts_are_fixed mark.Stop = inl refl
texts_are_fixed mark.Synonym = inl refl
texts_are_fixed mark.System = inl refl
texts_are_fixed mark.Task = inl refl
texts_are_fixed mark.Timer = inl refl
texts_are_fixed mark.To = inl refl
texts_are_fixed mark.With = inl refl
texts_are_fixed mark.Xor = inl refl
texts_are_fixed mark.True = inl refl
texts_are_fixed mark.False = inl refl
texts_are_fixed mark.Null = inl refl
texts_are_fixed mark.Assign = inr refl
texts_are_fixed mark.NotEqual = inr refl
texts_are_fixed mark.LessOrEqual = inr refl
texts_are_fixed mark.GreaterOrEqual = inr refl
texts_are_fixed mark.Implies = inr refl
texts_are_fixed mark.Open = inr refl
texts_are_fixed mark.Close = inr refl
texts_are_fixed mark.Comma = inr refl
texts_are_fixed mark.Semicolon = inr refl
texts_are_fixed mark.Colon = inr refl
texts_are_fixed mark.Equal = inr refl
texts_are_fixed mark.Less = inr refl
texts_are_fixed mark.Greater = inr refl
texts_are_fixed mark.Plus = inr refl
texts_are_fixed mark.Minus = inr refl
texts_are_fixed mark.Asterisk = inr refl
texts_are_fixed mark.Slash = inr refl
