-- The answers about a trace.dat file as C has them: the refusal 0 and the values, or the refusal's number and zeros.
-- Assumes nothing: these are definitions.
use Rattle.std.specs.Prelude.{ℕ}
use Rattle.fields.specs.Answer.{Answer, accepted, refused}
use Rattle.fields.specs.declared.Order.{Order}
use Rattle.fields.specs.declared.Order.TheVariants.{Little, Big}
use Rattle.dat_format.specs.Header.{Range}
use Rattle.dat_read.specs.declared.summary.Part as read
use Rattle.dat_read.specs.declared.summary.EndingKind.{EndingKind}
use Rattle.dat_read.specs.declared.summary.EndingKind.TheVariants.{Latency, Flyrecord}
use Rattle.dat_read.specs.declared.summary.Summary.{Summary}
use Rattle.dat_flat.specs.declared.Part.{Part}
use Rattle.dat_flat.specs.declared.DatSummary.{DatSummary}
use Rattle.dat_flat.specs.declared.CpuRange.{CpuRange}

-- a byte order and an ending, as the header numbers them
abbrev pub order_number : Order → ℕ
order_number Little = 0
order_number Big = 1

abbrev pub ending_number : EndingKind → ℕ
ending_number Latency = 0
ending_number Flyrecord = 1

abbrev pub flat_part : read.Part → Part
flat_part p = record { place = p.place; size = p.size }

abbrev pub shown_summary : Summary → DatSummary
shown_summary s =
    record {
      refusal = 0;
      order = order_number s.flags.order;
      long_size = s.flags.long;
      ending = ending_number s.ending;
      page_size = s.flags.page;
      format_count = s.sections.format_count;
      system_count = s.sections.system_count;
      cpu_count = s.texts.cpus;
      header_page = flat_part s.sections.header_page;
      header_event = flat_part s.sections.header_event;
      formats = flat_part s.sections.formats;
      systems = flat_part s.sections.systems;
      kallsyms = flat_part s.texts.kallsyms;
      printk = flat_part s.texts.printk;
      processes = flat_part s.texts.processes;
      options = flat_part s.options;
      body = flat_part s.body;
    }

abbrev no_part : Part
no_part = record { place = 0; size = 0 }

abbrev pub refused_summary : ℕ → DatSummary
refused_summary k =
    record {
      refusal = k;
      order = 0;
      long_size = 0;
      ending = 0;
      page_size = 0;
      format_count = 0;
      system_count = 0;
      cpu_count = 0;
      header_page = no_part;
      header_event = no_part;
      formats = no_part;
      systems = no_part;
      kallsyms = no_part;
      printk = no_part;
      processes = no_part;
      options = no_part;
      body = no_part;
    }

unfoldable pub flat_summary : Answer Summary → DatSummary
flat_summary (accepted s) = shown_summary s
flat_summary (refused k) = refused_summary k

unfoldable pub flat_range : Answer Range → CpuRange
flat_range (accepted r) = record { refusal = 0; offset = r.offset; size = r.size }
flat_range (refused k) = record { refusal = k; offset = 0; size = 0 }
