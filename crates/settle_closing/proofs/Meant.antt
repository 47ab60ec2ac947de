-- What the process of an instance means.
use Rattle.std.proofs.Common.{◌≡◌, ◌∙◌, ap, refl, subst, sym, ℕ, zero, suc, Bool, true, List, [], ◌∷◌, Option, Some, slice_get, unwrap_or}
use Rattle.std.specs.List.{AllZip}
use Rattle.std.specs.declared.alloc.Global.{Global}
use Rattle.crossbeam_queue.specs.SegTies.{SegId}
use Rattle.run_record.specs.Record.{RecordValue}
use Rattle.run_semantics.specs.Behaves.{AreBehaviours, Behaves}
use Rattle.run_semantics.specs.ControlPoint.{Definition}
use Rattle.sdl_interp.specs.Instance.{InstanceValue, IsClosed, IsRunAs}
use Rattle.sdl_system.specs.Behaviour.{Behaviour}
use Rattle.sdl_system.specs.System.{SystemValue}
use Rattle.threads_instance.specs.ThreadInstance.{IsSeated}

-- the other one of a pair of lists
record Beside {A B : Type 0} (R : A → B → Type 0) (x : A) (ys : List B) (k : ℕ) : Type 0 where
  y : B
  is_there : slice_get ys k ≡ Some y
  related : R x y

beside : {A B : Type 0} (R : A → B → Type 0) (xs : List A) (ys : List B) (k : ℕ) (x : A) → AllZip R xs ys
    → slice_get xs k ≡ Some x → Beside R x ys k
beside R [] ys k x all there = let wrong : ⊥ = cc in absurd wrong
beside R (first ∷ xs) [] k x all there = absurd all
beside R (first ∷ xs) (other ∷ ys) zero x all there =
    let is : first ≡ x = cc in record { y = other; is_there = refl; related = subst (λ z. R z other) is all.0 }
beside R (first ∷ xs) (other ∷ ys) (suc k) x all there =
    let found = beside R xs ys k x all.1 there in
    record { y = found.y; is_there = found.is_there; related = found.related }

-- two that are some system are one
same_system : (s t : SystemValue) → Some s ≡ Some t → s ≡ t
same_system s t same = ap (λ (o : Option SystemValue). unwrap_or o s) same

-- what is run by the behaviour of this system
abbrev pub definition : SystemValue → Behaviour → Definition
definition system p = record { system = system; behaviour = p }

-- the listed behaviour of the process, which the instance has run
pub record Meant (ps : List Behaviour) (system : SystemValue) (i : InstanceValue) (trace : RecordValue) : Type 0 where
  pub p : Behaviour
  pub listed : slice_get ps trace.process.0 ≡ Some p
  pub is_run : IsRunAs i (definition system p)

pub meant : (named : Option SystemValue) (ports : ℕ → SegId Global) (whole : Bool) (i : InstanceValue)
    (trace : RecordValue) (ps : List Behaviour) (system : SystemValue) → named ≡ Some system → AreBehaviours system ps
    → IsSeated named ports i → IsClosed true whole i trace → Meant ps system i trace
meant named ports whole i trace ps system is behaviours seated done =
    let system_is : i.system ≡ system = same_system i.system system (sym seated.system_is ∙ is) in
    let there : slice_get system.processes trace.process.0 ≡ Some i.process =
    ap (λ (s : SystemValue). slice_get s.processes trace.process.0) (sym system_is) ∙ done.listed in
    let found = beside (Behaves system) system.processes ps trace.process.0 i.process behaviours there in
    record {
      p = found.y;
      listed = found.is_there;
      is_run = record {
        system_is = sym system_is;
        behaves = subst (λ (s : SystemValue). Behaves s i.process found.y) (sym system_is) found.related;
      };
    }
