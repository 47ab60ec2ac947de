-- The limit of instances is told at the process with which there are too many.
use Rattle.std.proofs.Common.{◌≡◌, ◌∙◌, ◌≤ℤ◌, ◌<ℤ◌, ◌++◌, ◌+ℤ◌, ◌-ℤ◌, ℤ, pos, Bool, true, false, List, [], ◌∷◌, Option, None, Some, append_assoc, arith, if◌then◌else◌, inl, int_lt, map, refl, subst, sym}
use Rattle.std.proofs.lemmas.Int.{ints}
use Rattle.laws_broken.specs.Instances.{HasTooMany, all_at_start, at_start}
use Rattle.build_constants.specs.declared.counts.InstanceCounts.{InstanceCounts}
use Rattle.build_definitions.specs.Rows.{ProcessRow}
use Rattle.build_definitions.specs.Definitions.{Rows}
use Rattle.build_constants.specs.ConstantTable.{all_counts, counts_at}
use Rattle.build_constants.specs.Limit.{limit_faults, limit_from, most_instances, taken_by}
use Rattle.build_definitions.specs.declared.symbols.symbol_table.SymbolTable.{SymbolTable}
use Rattle.build_names.specs.FaultLaws.{Each, In}
use Rattle.build_names.specs.Faults.{Diagnostic, diagnostic_at}
use Rattle.build_names.specs.declared.faults.fault.Rule.TheVariants.{Limit}
use Rattle.build_expressions.specs.declared.scope.Constant.{Constant}

-- ---- numbers

less-holds : (a b : ℤ) → int_lt a b ≡ true → a <ℤ b
less-holds a b is = omega (arith, ints)

less-fails : (a b : ℤ) → int_lt a b ≡ false → b ≤ℤ a
less-fails a b is = omega (arith, ints)

true-if : (a b : ℤ) (test : Bool) → int_lt a b ≡ test → a <ℤ b → test ≡ true
true-if a b true is less = refl
true-if a b false is less = absurd (omega (arith, ints))

false-if : (a b : ℤ) (test : Bool) → int_lt a b ≡ test → b ≤ℤ a → test ≡ false
false-if a b true is most = absurd (omega (arith, ints))
false-if a b false is most = refl

add-behind : (x y z w : ℤ) → y ≡ z +ℤ w → x +ℤ y ≡ (x +ℤ z) +ℤ w
add-behind x y z w is = omega (arith, ints)

add-none : (x : ℤ) → x +ℤ pos 0 ≡ pos 0 +ℤ x
add-none x = omega (arith, ints)

move : (left taken base most : ℤ) → left +ℤ base ≡ most → (left -ℤ taken) +ℤ (base +ℤ taken) ≡ most
move left taken base most is = omega (arith, ints)

goes-past : (left taken base most : ℤ) → left +ℤ base ≡ most → left <ℤ taken → most <ℤ (base +ℤ taken)
goes-past left taken base most is less = omega (arith, ints)

stays-below : (left taken base most : ℤ) → left +ℤ base ≡ most → taken ≤ℤ left → (base +ℤ taken) ≤ℤ most
stays-below left taken base most is less = omega (arith, ints)

add-some : (x y : ℤ) → pos 0 ≤ℤ x → pos 0 ≤ℤ y → pos 0 ≤ℤ (x +ℤ y)
add-some x y one other = omega (arith, ints)

first-below : (x y left : ℤ) → pos 0 ≤ℤ y → (x +ℤ y) ≤ℤ left → x ≤ℤ left
first-below x y left some most = omega (arith, ints)

rest-below : (x y left : ℤ) → (x +ℤ y) ≤ℤ left → y ≤ℤ (left -ℤ x)
rest-below x y left most = omega (arith, ints)

rest-past : (x y z left : ℤ) → left <ℤ ((x +ℤ y) +ℤ z) → (left -ℤ x) <ℤ (y +ℤ z)
rest-past x y z left less = omega (arith, ints)

past-none : (x left : ℤ) → left <ℤ (pos 0 +ℤ x) → left <ℤ x
past-none x left less = omega (arith, ints)

start-none : (most : ℤ) → most +ℤ pos 0 ≡ most
start-none most = omega (arith, ints)

some-initial : (initial : ℤ) (test : Bool) → int_lt initial (pos 0) ≡ test →
    pos 0 ≤ℤ (if test then pos 0 else initial)
some-initial initial true is = omega (arith, ints)
some-initial initial false is = less-fails initial (pos 0) is

some-taken : (counted : Option InstanceCounts) → pos 0 ≤ℤ taken_by counted
some-taken None = omega (arith, ints)
some-taken (Some counts) = some-initial counts.initial (int_lt counts.initial (pos 0)) refl

-- ---- lists

each-test : (P : Diagnostic → Type 0) (told : Diagnostic) (rest : List Diagnostic) (a b : ℤ) (test : Bool) →
    int_lt a b ≡ test →
    (a <ℤ b → P told) → (b ≤ℤ a → Each P rest) → Each P (if test then told ∷ [] else rest)
each-test P told rest a b true is past below = (past (less-holds a b is), tt)
each-test P told rest a b false is past below = below (less-fails a b is)

in-now : (told : Diagnostic) (rest : List Diagnostic) (test : Bool) → test ≡ true →
    In told (if test then told ∷ [] else rest)
in-now told rest true is = inl refl
in-now told rest false is = cc

in-later : (fault told : Diagnostic) (rest : List Diagnostic) (test : Bool) → test ≡ false → In fault rest →
    In fault (if test then told ∷ [] else rest)
in-later fault told rest true is at = cc
in-later fault told rest false is at = at

module _ (rows : Rows) (symbols : SymbolTable) (constants : List Constant) where
  abbrev one : ProcessRow → ℤ
  one process = at_start rows symbols constants process

  abbrev all : List ProcessRow → ℤ
  all processes = all_at_start rows symbols constants processes

  abbrev counted : List ProcessRow → List (Option InstanceCounts)
  counted processes = map (counts_at rows symbols constants) processes

  abbrev Breaks : Diagnostic → Type 0
  Breaks fault = HasTooMany rows symbols constants fault

  all-behind : (before : List ProcessRow) (process : ProcessRow) →
      all (before ++ process ∷ []) ≡ all before +ℤ one process
  all-behind [] process = add-none (one process)
  all-behind (first ∷ before) process =
      add-behind (one first) (all (before ++ process ∷ [])) (all before) (one process) (all-behind before process)

  all-some : (processes : List ProcessRow) → pos 0 ≤ℤ all processes
  all-some [] = some-taken None
  all-some (first ∷ processes) =
      add-some (one first) (all processes) (some-taken (counts_at rows symbols constants first)) (all-some processes)

  each-process : (after before : List ProcessRow) (left : ℤ) → rows.processes ≡ before ++ after →
      left +ℤ all before ≡ most_instances → all before ≤ℤ most_instances →
      Each Breaks (limit_from left after (counted after))
  each-process [] before left is left_is enough = tt
  each-process (process ∷ after) before left is left_is enough =
      each-test Breaks (diagnostic_at Limit process.definition.name)
      (limit_from (left -ℤ one process) after (counted after)) left (one process) (int_lt left (one process)) refl
      (λ past. record {
        before = before;
        process = process;
        after = after;
        in_text = is;
        enough = enough;
        too_many = goes-past left (one process) (all before) most_instances left_is past;
        told = refl;
      })
      (λ below. each-process after (before ++ process ∷ []) (left -ℤ one process)
      (is ∙ sym (append_assoc before (process ∷ []) after))
      (subst (λ sum. (left -ℤ one process) +ℤ sum ≡ most_instances) (sym (all-behind before process))
      (move left (one process) (all before) most_instances left_is))
      (subst (λ sum. sum ≤ℤ most_instances) (sym (all-behind before process))
      (stays-below left (one process) (all before) most_instances left_is below)))

  in-process : (before : List ProcessRow) (process : ProcessRow) (after : List ProcessRow) (left : ℤ) →
      all before ≤ℤ left → left <ℤ (all before +ℤ one process) →
      In (diagnostic_at Limit process.definition.name)
      (limit_from left (before ++ process ∷ after) (counted (before ++ process ∷ after)))
  in-process [] process after left enough past =
      in-now (diagnostic_at Limit process.definition.name) (limit_from (left -ℤ one process) after (counted after))
      (int_lt left (one process))
      (true-if left (one process) (int_lt left (one process)) refl (past-none (one process) left past))
  in-process (first ∷ before) process after left enough past =
      in-later (diagnostic_at Limit process.definition.name) (diagnostic_at Limit first.definition.name)
      (limit_from (left -ℤ one first) (before ++ process ∷ after) (counted (before ++ process ∷ after)))
      (int_lt left (one first))
      (false-if left (one first) (int_lt left (one first)) refl
      (first-below (one first) (all before) left (all-some before) enough))
      (in-process before process after (left -ℤ one first) (rest-below (one first) (all before) left enough)
      (rest-past (one first) (all before) (one process) left past))

pub listed-instances : (rows : Rows) (symbols : SymbolTable) (constants : List Constant) →
    Each (HasTooMany rows symbols constants) (limit_faults rows.processes (all_counts rows symbols constants))
listed-instances rows symbols constants =
    each-process rows symbols constants rows.processes [] most_instances refl (start-none most_instances)
    (omega (arith, ints))

pub instances-listed : (rows : Rows) (symbols : SymbolTable) (constants : List Constant) (fault : Diagnostic) →
    HasTooMany rows symbols constants fault →
    In fault (limit_faults rows.processes (all_counts rows symbols constants))
instances-listed rows symbols constants fault many =
    subst (λ (told : Diagnostic). In told (limit_faults rows.processes (all_counts rows symbols constants)))
    (sym many.told)
    (subst (λ (list : List ProcessRow). In (diagnostic_at Limit many.process.definition.name)
    (limit_from most_instances list (map (counts_at rows symbols constants) list))) (sym many.in_text)
    (in-process rows symbols constants many.before many.process many.after most_instances many.enough many.too_many))
