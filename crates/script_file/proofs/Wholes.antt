-- What is said of the front of a content that is whole where it is short, is said of the content.
use Rattle.std.proofs.Common.{◌≡◌, ℕ, inl, inr, List, Option, length, take, ap, sym, subst, arith, length-take}
use Rattle.std.specs.Option.{ForSome}
use Rattle.gst_outside.specs.Seen.{Seen}
use Rattle.script_text.specs.Scripts.{IsRefusal, IsRefused, IsScript}
use Rattle.script_text.specs.declared.acts.Acts.{Acts}
use Rattle.script_text.specs.declared.command.Command.{Command}
use Rattle.script_text.specs.declared.fault.ScriptFault.{ScriptFault}
use Rattle.script_text.specs.declared.fault.ScriptFault.TheVariants.{BadScript, OutOfMemory}
use Rattle.script_text.specs.declared.fault.ScriptKind.{ScriptKind}
use Rattle.script_file.specs.declared.fault.FileFault.{FileFault}
use Rattle.script_file.specs.Faults.{IsFileFault, fault_of}
use Rattle.script_file.specs.Fronts.{IsFront, IsReadAs}

script_of_all : (acts : Acts) (bytes c : List ℕ) (commands : List Command) → IsFront bytes c → IsScript acts bytes commands → IsScript acts c commands
script_of_all acts bytes c commands front script = subst (λ t. IsScript acts t commands) (front.whole script.short) script

refused_of_all : (acts : Acts) (bytes c : List ℕ) (line : ℕ) (kind : ScriptKind) → IsFront bytes c → IsRefused acts bytes line kind → IsRefused acts c line kind
refused_of_all acts bytes c line kind front (inl long) =
    let size : length bytes ≡ length (take (length bytes) c) = ap length front.front in
    inl (record { long = omega (arith, long.long, length-take (length bytes) c); counted = long.counted; answer = long.answer })
refused_of_all acts bytes c line kind front (inr bad) = subst (λ t. IsRefused acts t line kind) (front.whole bad.short) (inr bad)

pub read_as_script : (acts : Acts) (told : Option (List ℕ)) (bytes : List ℕ) (commands : List Command) → ForSome told (IsFront bytes) → IsScript acts bytes commands
    → IsReadAs told (λ text. IsScript acts text commands)
read_as_script acts told bytes commands front script = ((bytes, script), λ c is. script_of_all acts bytes c commands (front c is) script)

pub read_as_refused : (acts : Acts) (told : Option (List ℕ)) (bytes : List ℕ) (line : ℕ) (kind : ScriptKind) → ForSome told (IsFront bytes) → IsRefused acts bytes line kind
    → IsReadAs told (λ text. IsRefused acts text line kind)
read_as_refused acts told bytes line kind front refused = ((bytes, refused), λ c is. refused_of_all acts bytes c line kind (front c is) refused)

-- the fault of the text that was read is the file's
pub text_refused : (acts : Acts) (location : List ℕ) (before after : Seen) (bytes : List ℕ) (why : ScriptFault) (fault : FileFault) → ForSome (before.input location) (IsFront bytes) → IsRefusal acts bytes why
    → fault ≡ fault_of why → IsFileFault acts location before after fault
text_refused acts location before after bytes (BadScript line kind) fault front refused is =
    subst (IsFileFault acts location before after) (sym is) (read_as_refused acts (before.input location) bytes line kind front refused)
text_refused acts location before after bytes OutOfMemory fault front refused is = subst (IsFileFault acts location before after) (sym is) tt
