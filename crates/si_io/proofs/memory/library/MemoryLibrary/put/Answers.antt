-- The map's entries are those of before, with the new file put in.
use Rattle.std.proofs.Common.{ap, refl, ◌∙◌}
use Rattle.std.specs.Option.{option_map}
use Rattle.std.specs.Map.{lookup}
use Rattle.std.specs.Str.{bytes_eq}
use Rattle.si_io.proofs.Files.{put_finds, put_keeps}
use Rattle.si_io.proofs.memory.library.MemoryLibrary.put.Goals as goal

pub returns-in-Ok-clause-put : goal.returns-in-Ok-clause-put
returns-in-Ok-clause-put c =
    let old = c.args.self.now.files.entries in
    let key = c.args.name in
    let entries = c.in-Ok.ensures.entries in
    record {
      put = ap (λ es. option_map (λ bytes. bytes.items) (lookup (λ k. bytes_eq key.items k.items) es)) entries
          ∙ ap (option_map (λ bytes. bytes.items)) (put_finds (λ k. k.items) _ (λ a b. refl) key c.args.bytes old);
      others = λ other apart. ap (λ es. option_map (λ bytes. bytes.items) (lookup (λ k. bytes_eq other k.items) es)) entries
          ∙ ap (option_map (λ bytes. bytes.items)) (put_keeps (λ k. k.items) _ (λ a b. refl) key c.args.bytes old other apart);
    }
