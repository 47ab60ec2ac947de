-- The laws of blocks and of the system.
use Rattle.sdl_parse.proofs.Words.{Anywhere, AreAlike, Behind, Block, BlockPart, Channel, Choice, Connect, Definition, Ended, Err, Followed, Form, Gives, InBlock, InSystem, Law, List, Made, MaybeLaw, Or, Process, Refusal, Repeated, SignalList, Signals, SpellsBlock, SpellsBlockPart, SpellsChannel, SpellsClosing, SpellsConnect, SpellsDef, SpellsName, SpellsProcess, SpellsSignal, SpellsSignalList, SpellsSynonym, SpellsSystemDef, SpellsTree, Spot, Synonyms, SystemDefinition, Tied, Tree, Words, [], ap, as_choice, behind_law, closed_list_law, either_as, ended_law, erased, erased_block, erased_block_part, erased_definition, erased_system_definition, front, inl, inr, made, made_as, made_law, mark_law, maybe_choice, name_law, not_refused, one_choice, or_choice, read_as, record_law, refl, same_mark, same_value, sees, sees_one, signal_law, signal_list_law, subst, suc, sym, then_law, tied_law, whole, ℕ, ◌∙◌, ◌∷◌, ◌≡◌, ◌⊎◌, Ok, Outcome, Told, and_then, closed_same}
use Rattle.sdl_tree.specs.declared.mark.Mark.TheVariants as mark
use Rattle.sdl_parse.specs.Systems.{definition_marks, definition, block_part, block_with, block, system_definition, at_end, tree_with, system, specification}
use Rattle.sdl_parse.proofs.ChannelLaws.{channel_law, connect_law}
use Rattle.sdl_parse.proofs.ProcessLaws.{process_law}
use Rattle.sdl_parse.proofs.DeclarationLaws.{synonym_law}

-- ---- what both a system and a block define

abbrev IsDefinition : ℕ → Form Definition
IsDefinition d = Or (Made Signals SpellsSignal) (Or (Made SignalList SpellsSignalList) (Or (Made Synonyms (SpellsSynonym d)) (Or (Made Channel SpellsChannel) (Made Process (SpellsProcess d)))))

definition_to : (d : ℕ) (x : Definition) (i j : Words) → IsDefinition d x i j → SpellsDef d x i j
definition_to d =
    either_as (made_as (SpellsDef d) Signals) (either_as (made_as (SpellsDef d) SignalList) (either_as (made_as (SpellsDef d) Synonyms)
    (either_as (made_as (SpellsDef d) Channel) (made_as (SpellsDef d) Process))))

definition_from : (d : ℕ) (x : Definition) (i j : Words) → SpellsDef d x i j → IsDefinition d x i j
definition_from d (Signals x) i j s = inl (x, refl, s)
definition_from d (SignalList x) i j s = inr (inl (x, refl, s))
definition_from d (Synonyms x) i j s = inr (inr (inl (x, refl, s)))
definition_from d (Channel x) i j s = inr (inr (inr (inl (x, refl, s))))
definition_from d (Process x) i j s = inr (inr (inr (inr (x, refl, s))))

-- ---- blocks and the system

abbrev SpellsDefsOf : ℕ → Spot → List SystemDefinition → Words → Words → Type 0
SpellsDefsOf d x = Followed (Repeated (SpellsSystemDef d)) (SpellsClosing mark.EndSystem x.text)

abbrev pub SpellsSystem : ℕ → Tree → Words → Words → Type 0
SpellsSystem d t i j = Behind mark.System (Tied (Ended SpellsName) (SpellsDefsOf d)) (t.name, t.definitions) i j

block_part_from : (d : ℕ) (x : BlockPart) (i j : Words) → SpellsBlockPart d x i j → Made Connect SpellsConnect x i j ⊎ Made InBlock (SpellsDef d) x i j
block_part_from d (Connect x) i j s = inl (x, refl, s)
block_part_from d (InBlock x) i j s = inr (x, refl, s)

system_definition_from : (d : ℕ) (x : SystemDefinition) (i j : Words) → SpellsSystemDef d x i j → Made Block (SpellsBlock d) x i j ⊎ Made InSystem (SpellsDef d) x i j
system_definition_from d (Block x) i j s = inl (x, refl, s)
system_definition_from d (InSystem x) i j s = inr (x, refl, s)

-- words like none are none
none_alike : (k : Words) → AreAlike [] k → k ≡ []
none_alike [] a = refl
none_alike (w ∷ k) a = absurd a

-- ---- from the definitions to the text

module _ (d : ℕ) where
  definition_choice : Choice (definition d) (SpellsDef d) (SpellsDef (suc d)) Anywhere definition_marks erased_definition
  unfolding definition same_mark
  definition_choice = as_choice (definition_to d) (definition_from d) (definition_to (suc d))
      (or_choice mark.Signal _ refl (made_law Signals (λ x. refl) signal_law) (λ x i j s. (s.2.0, s.2.1, s.2.2))
      (or_choice mark.SignalList _ refl (made_law SignalList (λ x. refl) signal_list_law) (λ x i j s. (s.0.word, s.2.0, s.2.1))
      (or_choice mark.Synonym _ refl (made_law Synonyms (λ x. refl) (synonym_law d)) (λ x i j s. (s.0.word, s.2.0, s.2.1))
      (or_choice mark.Channel _ refl (made_law Channel (λ x. refl) channel_law) (λ x i j s. (s.0.word, s.2.0, s.2.1))
      (one_choice mark.Process (made_law Process (λ x. refl) (process_law d)) (λ x i j s. (s.0.word, s.2.0, s.2.1)))))))

  -- the same definitions inside another node
  inside_choice : {B : Type 0} (f : Definition → B) {g : B → B} → ((x : Definition) → g (f x) ≡ f (erased_definition x))
      → Choice (made f (definition d)) (Made f (SpellsDef d)) (Made f (SpellsDef (suc d))) Anywhere definition_marks g
  inside_choice f same = record {
    law = made_law f same definition_choice.law;
    begins = λ y i j s. definition_choice.begins s.0 i j s.2;
  }

  block_part_law : MaybeLaw (block_part d) (SpellsBlockPart d) (SpellsBlockPart (suc d)) Anywhere (sees_one (mark.Connect ∷ definition_marks)) erased_block_part
  unfolding block_part same_mark
  block_part_law = maybe_choice (mark.Connect ∷ definition_marks)
      (as_choice (either_as (made_as (SpellsBlockPart d) Connect) (made_as (SpellsBlockPart d) InBlock)) (block_part_from d)
      (either_as (made_as (SpellsBlockPart (suc d)) Connect) (made_as (SpellsBlockPart (suc d)) InBlock))
      (or_choice mark.Connect definition_marks refl (made_law Connect (λ x. refl) connect_law) (λ x i j s. (s.0.word, s.2.0, s.2.1))
      (inside_choice InBlock (λ x. refl))))

  block_law : Law (block d) (SpellsBlock d) (SpellsBlock (suc d)) Anywhere erased_block
  unfolding block sees front same_mark
  block_law = record_law block_with (λ y. (y.word, (y.name, y.definitions))) (λ x. refl) (λ x. refl) (λ y. refl)
      (then_law (mark_law mark.Block)
      (tied_law (ended_law name_law (λ i j s. tt)) (λ x. closed_list_law mark.EndBlock block_part_law (λ i t. tt) tt (λ s k. (tt, refl)) x.text)
      (λ x y m j s t. tt) (closed_same (Repeated (SpellsBlockPart d)) mark.EndBlock)))

  system_definition_law : MaybeLaw (system_definition d) (SpellsSystemDef d) (SpellsSystemDef (suc d)) Anywhere (sees_one (mark.Block ∷ definition_marks)) erased_system_definition
  unfolding system_definition same_mark
  system_definition_law = maybe_choice (mark.Block ∷ definition_marks)
      (as_choice (either_as (made_as (SpellsSystemDef d) Block) (made_as (SpellsSystemDef d) InSystem)) (system_definition_from d)
      (either_as (made_as (SpellsSystemDef (suc d)) Block) (made_as (SpellsSystemDef (suc d)) InSystem))
      (or_choice mark.Block definition_marks refl (made_law Block (λ x. refl) block_law) (λ x i j s. (s.0.word, s.2.0, s.2.1))
      (inside_choice InSystem (λ x. refl))))

  pub system_law : Law (system d) (SpellsSystem d) (SpellsSystem (suc d)) Anywhere erased
  unfolding sees front same_mark
  system_law = record_law tree_with (λ t. (t.name, t.definitions)) (λ x. refl) (λ x. refl) (λ t. refl)
      (behind_law mark.System
      (tied_law (ended_law name_law (λ i j s. tt)) (λ x. closed_list_law mark.EndSystem system_definition_law (λ i t. tt) tt (λ s k. (tt, refl)) x.text)
      (λ x y m j s t. tt) (closed_same (Repeated (SpellsSystemDef d)) mark.EndSystem)))

  -- ---- whole texts: the system, and nothing behind it

  abbrev Tells : Words → Outcome Tree → Type 0
  Tells i (Ok z) = SpellsTree d z.0 i
  Tells i (Err r) = Told (SpellsSystem d) (SpellsSystem (suc d)) Anywhere i r

  tells_by : (i : Words) (o : Outcome Tree) → Gives (system d) (SpellsSystem d) (SpellsSystem (suc d)) Anywhere i o
      → Tells i (and_then o (λ t m. and_then (at_end m) (λ _ j. read_as t j)))
  unfolding at_end
  tells_by i (Ok (t, [])) told = told.spelled
  tells_by i (Ok (t, w ∷ m)) told = (told.taken, told.at)
  tells_by i (Err r) told = told

  specification_tells : (i : Words) (o : Outcome Tree) → specification d i ≡ o → Tells i o
  unfolding specification
  specification_tells i o e = let F : Outcome Tree → Type 0 = λ p. Tells i p in subst F e (tells_by i (system d i) (system_law.rules.tells i))

  -- what is read spells the words, and leaves none
  pub specification_sound : (i : Words) (t : Tree) (j : Words) → specification d i ≡ read_as t j → SpellsTree d t i
  specification_sound i t j e = specification_tells i (read_as t j) e

  -- what a refusal says: where it stands, or what opens one too many
  pub specification_told : (i : Words) (r : Refusal) → specification d i ≡ Err r → Told (SpellsSystem d) (SpellsSystem (suc d)) Anywhere i r
  specification_told i r e = specification_tells i (Err r) e

  -- what words spell is read from them
  pub specification_complete : (t : Tree) (i : Words) → SpellsTree d t i → specification d i ≡ read_as t []
  unfolding specification at_end
  specification_complete t i s = ap (λ o. and_then o (λ u m. and_then (at_end m) (λ _ j. read_as u j))) (system_law.rules.complete t i [] s tt)

  -- words that differ in places and spellings alone from what spells a tree spell one that differs in these alone
  pub specification_moves : (t : Tree) (i k : Words) → SpellsTree d t i → AreAlike i k → (u : Tree) × SpellsTree d u k × (erased u ≡ erased t)
  specification_moves t i k s a = let c = system_law.rules.moves t i [] k s a in (c.0, rw (none_alike c.1 c.3) at c.2, c.4)

  -- two trees that the same words spell are one
  pub specification_one : (t u : Tree) (i : Words) → SpellsTree d t i → SpellsTree d u i → t ≡ u
  specification_one t u i s r = same_value t u [] [] (sym (specification_complete t i s) ∙ specification_complete u i r)

  -- what is refused spells none
  pub specification_refused : (i : Words) (r : Refusal) → specification d i ≡ Err r → (t : Tree) → SpellsTree d t i → ⊥
  specification_refused i r e t s = not_refused t [] r (sym (specification_complete t i s) ∙ e)
